-- Clues that are tried, and those that are needed.
use Rattle.maker_core.proofs.Common.{All, All-cons, All-contains, All-nil, AreReasons, Bool, Budget, CluedGame, Contains, Contains-append_right, Contains-permutation, FitsIn, HasOne, HasTwo, IsAnswer, IsAsked, IsDistinct, IsDistinct-IsPermutation, IsGame, IsLeft, IsOnly, IsPermutation, IsPermutation-sym, IsReason, IsThinnedFrom, IsThinning, IsTold, IsTrueOf, IsVerdict, Kept, LeavesNoIdleClue, List, Needed, Needs, None, Option, Outcome, RuleSystem, Some, TellsOne, Why, [], add-one, ap, append-nil, arith, cases_eq, clue_is, clue_places, common_steps, distinct_filtered_range, drop, drop-cons, eqb, false, filter, filter_passes, get_or, get_or-map, get_or-replicate, get_or-set_at, get_or-set_other, get_or_past, has_clue, inl, inr, is_some, length, length-map, length-replicate, length-set, length-take, lights_by_fewer, map, nat_eq_equiv, needs_of, numbered_is, outcome, range_with_len, reasons_from, refl, replicate, set, solved_by_fewer, subst, suc, sym, take, true, true≢false, walk, zero, ℕ, ◌++◌, ◌+◌, ◌<◌, ◌∙◌, ◌∷◌, ◌≡◌, ◌≢◌, ◌≤◌, ◌⊎◌}
use Rattle.engine_core.specs.declared.search.walk.Verdict.TheVariants as verdict
use Rattle.maker_core.proofs.WrittenGrids.{head_apart, passes_kept, set_back}

-- A clue is tried: it stays for a reason that the verdict tells, which holds of thinner puzzles too; and the reasons written are those of the clues left.

pub needed : (p : RuleSystem) (budget : ℕ) {first second : Option (List ℕ)} {o : Outcome} {why : Why} → why ≡ Needed
    → IsAnswer verdict.Several first second o → IsTrueOf p o → IsVerdict p budget why
needed p budget is answer sound = grind (arith, common_steps)

pub gave_up : (p : RuleSystem) (budget : ℕ) {first second : Option (List ℕ)} {found : Bool} {why : Why} → why ≡ Budget
    → IsAnswer (verdict.GaveUp found) first second (outcome budget None (walk p 0 p.start)) → IsVerdict p budget why
gave_up p budget {first} is answer = rw is (record { found = first; verdict = answer.0 })

pub some_of : (o : Option ℕ) → is_some o ≡ true → (n : ℕ) × (o ≡ Some n)
some_of None e = absurd (true≢false (sym e))
some_of (Some n) e = (n, refl)

pub none_of : {o : Option ℕ} → is_some o ≡ false → o ≡ None
none_of e = grind arith

pub contains_head : (xs : List ℕ) (x : ℕ) → Contains (x ∷ xs) x
contains_head xs x = (0, omega arith, refl)

-- an element that is not the head is in the rest
contains_rest : (xs : List ℕ) {x q : ℕ} → q ≢ x → Contains (x ∷ xs) q → Contains xs q
contains_rest xs apart (zero, below, is) = absurd (apart (sym is))
contains_rest xs apart (suc k, below, is) = (k, omega arith, is)

-- what holds of the puzzle after the clue of a cell was tried: no clue more, and memory for the old one suffices
pub record IsClueTried {A : Type 0} (game : CluedGame A) (budget : ℕ) (all old new : A) (place : ℕ) (why : Option Why) : Type 0 where
  pub within : IsThinnedFrom game new old
  pub one : HasOne (game.rules new) budget
  pub others : (other : ℕ) → other ≢ place → game.clue new other ≡ game.clue old other
  pub told : IsTold game budget all new place why
  pub fits : (made : Needs) → FitsIn (needs_of (game.rules old)) made → FitsIn (needs_of (game.rules new)) made

-- the next clue of the list has its turn
pub next_turn : {A : Type 0} {game : CluedGame A} {budget : ℕ} {all p : A} {whys : List (Option Why)} (order : List ℕ) {k : ℕ} → k < length order
    → IsThinning game budget all p whys (drop k order) → IsThinning game budget all p whys (get_or order k 0 ∷ drop (k + 1) order)
next_turn order {k} below now = rw (add-one, sym (drop-cons order k 0 below)) now

module _ {A : Type 0} {game : CluedGame A} (laws : IsGame game) where
  pub within_itself : {p : A} → IsThinnedFrom game p p
  within_itself {p} = grind (arith, common_steps)

  within_through : {p q r : A} → IsThinnedFrom game p q → IsThinnedFrom game q r → IsThinnedFrom game p r
  within_through {p} {q} {r} first second = grind (arith, common_steps)

  -- a clue of the puzzle without the clue of a cell is a clue of another cell
  other_clue : (p : A) (place other m : ℕ) → game.clue (game.without p place) other ≡ Some m → (other ≢ place) × (game.clue p other ≡ Some m)
  other_clue p place other m had = grind (arith, common_steps, cases_eq)

  thinner : (p : A) (place n : ℕ) → game.clue p place ≡ Some n → IsThinnedFrom game (game.without p place) p
  thinner p place n e = grind (arith, common_steps, other_clue)

  without_within : (p q : A) (place n : ℕ) → IsThinnedFrom game p q → game.clue p place ≡ Some n
      → IsThinnedFrom game (game.without p place) (game.without q place)
  without_within p q place n w e = grind (arith, common_steps, within_through, thinner, other_clue)

  pub two_in : {p q : A} → IsThinnedFrom game p q → HasTwo (game.rules q) → HasTwo (game.rules p)
  two_in {p} {q} w two = grind (arith, common_steps)

  module _ (budget : ℕ) (all : A) where
    reason_in : (p q : A) (place : ℕ) (why : Why) → IsThinnedFrom game (game.without p place) (game.without q place)
        → IsReason game budget all q place why → IsReason game budget all p place why
    reason_in p q place Needed w two = two_in w two
    reason_in p q place Budget w hard =
        record { thicker = hard.thicker; lacks = hard.lacks; over = within_through w hard.over; under = hard.under; gave_up = hard.gave_up }

    -- what is told of a cell stays true where other clues go
    told_in : (p q : A) (place : ℕ) (o : Option Why) → IsThinnedFrom game p q → game.clue p place ≡ game.clue q place
        → IsTold game budget all q place o → IsTold game budget all p place o
    told_in p q place None w same told = same ∙ told
    told_in p q place (Some why) w same told =
        let n = some_of (game.clue q place) told.0 in
        (ap is_some same ∙ told.0, reason_in p q place why (without_within p q place n.0 w (same ∙ n.1)) told.1)

  module _ {budget : ℕ} {all p : A} {whys : List (Option Why)} {place : ℕ} {rest : List ℕ} (now : IsThinning game budget all p whys (place ∷ rest)) where
    clue_of : (n : ℕ) × (game.clue p place ≡ Some n)
    clue_of = some_of (game.clue p place) (now.waiting place (contains_head rest place))

    pub turn_in_room : place < length whys
    turn_in_room = omega (arith, laws.clue_in p place clue_of.0 clue_of.1, laws.same_cells p all now.within.frame, now.room)

    -- the verdict without the clue is a reason
    verdict_reason : (why : Why) → IsVerdict (game.rules (game.without p place)) budget why → IsReason game budget all p place why
    verdict_reason Needed two = two
    verdict_reason Budget gave_up = record {
      thicker = game.without p place;
      lacks = laws.without_it p place;
      over = within_itself;
      under = within_through (thinner p place clue_of.0 clue_of.1) now.within;
      gave_up = gave_up;
    }

    pub turn : {new : A} (why : Option Why) → IsLeft game place p new why → IsAsked game budget place p why → IsClueTried game budget all p new place why
    turn None left asked = rw left (record {
      within = thinner p place clue_of.0 clue_of.1;
      one = asked;
      others = laws.others_stay p place;
      told = laws.without_it p place;
      fits = λ made had. grind (arith, laws.needs_less p place clue_of.0 clue_of.1);
    })
    turn (Some why) left asked = rw left (record {
      within = within_itself;
      one = now.one;
      others = λ other apart. refl;
      told = (ap is_some clue_of.1, verdict_reason why asked);
      fits = λ made had. had;
    })

    -- a clue was tried, and the reason written
    pub thinning_turn : {new : A} {why : Option Why} → IsClueTried game budget all p new place why → IsThinning game budget all new (set whys place why) rest
    unfolding IsDistinct
    thinning_turn {new} {why} turned = record {
      within = within_through turned.within now.within;
      one = turned.one;
      waiting = λ other held. ap is_some (turned.others other (head_apart rest now.different.0 held))
          ∙ now.waiting other (Contains-append_right (place ∷ []) rest other held);
      different = now.different.1;
      told = λ other. at other (cases_eq other place) (now.told other);
      room = length-set whys place why ∙ now.room;
    }
      where
        at : (other : ℕ) → (other ≡ place) ⊎ (other ≢ place) → Contains (place ∷ rest) other ⊎ IsTold game budget all p other (get_or whys other None)
            → Contains rest other ⊎ IsTold game budget all new other (get_or (set whys place why) other None)
        at other (inl same) before = inr (rw (get_or-set_at whys place other why None same turn_in_room, same) turned.told)
        at other (inr apart) (inl held) = inl (contains_rest rest apart held)
        at other (inr apart) (inr told) =
            inr (rw (get_or-set_other whys place other why None apart) (told_in budget all new p other _ turned.within (turned.others other apart) told))

blank_at : (n place : ℕ) → get_or (replicate {A = Option Why} n None) place None ≡ None
blank_at n place = grind (arith, common_steps, get_or-replicate, get_or_past, length-replicate)

one_reason : ℕ → Option Why → List Kept
one_reason place None = []
one_reason place (Some why) = record { place = place; why = why } ∷ []

reasons_more : (xs : List (Option Why)) (o : Option Why) (a b : ℕ) → a + length xs ≡ b → reasons_from a (xs ++ o ∷ []) ≡ reasons_from a xs ++ one_reason b o
unfolding reasons_from one_reason
reasons_more [] None a b e = refl
reasons_more [] (Some why) a b e = ap (λ place. record { place = place; why = why } ∷ []) (omega (arith, e))
reasons_more (None ∷ xs) o a b e = reasons_more xs o (suc a) b (omega (arith, e))
reasons_more (Some why ∷ xs) o a b e = ap (λ ks. record { place = a; why = why } ∷ ks) (reasons_more xs o (suc a) b (omega (arith, e)))

-- one place more
taken_more : (whys : List (Option Why)) (k : ℕ) (o : Option Why) → k < length whys → get_or whys k None ≡ o
    → reasons_from 0 (take (k + 1) whys) ≡ reasons_from 0 (take k whys) ++ one_reason k o
taken_more whys k o below is = grind (arith, common_steps, reasons_more, length-take)

pub reason_kept : (whys : List (Option Why)) {k : ℕ} {why : Why} {before after : List Kept} → k < length whys → get_or whys k None ≡ Some why
    → before ≡ reasons_from 0 (take k whys) → after ≡ before ++ record { place = k; why = why } ∷ [] → after ≡ reasons_from 0 (take (k + 1) whys)
unfolding one_reason
reason_kept whys {k} {why} below is kept more = grind (arith, taken_more whys k (Some why))

pub reason_skipped : (whys : List (Option Why)) {k : ℕ} {before after : List Kept} → k < length whys → get_or whys k None ≡ None
    → before ≡ reasons_from 0 (take k whys) → after ≡ before → after ≡ reasons_from 0 (take (k + 1) whys)
unfolding one_reason
reason_skipped whys {k} below is kept same = grind (arith, taken_more whys k None, append-nil (reasons_from 0 (take k whys)))

pub no_reason : (o : Option Why) → ((why : Why) → o ≡ Some why → ⊥) → o ≡ None
no_reason None never = refl
no_reason (Some why) never = absurd (never why refl)

module _ {A : Type 0} (game : CluedGame A) (budget : ℕ) (all p : A) where
  -- what is told of the cells from `a` on
  abbrev AreTold : List (Option Why) → ℕ → Type 0
  AreTold whys a = (k i : ℕ) → k ≡ a + i → IsTold game budget all p k (get_or whys i None)

  -- gives the reasons by place
  told_places : (whys : List (Option Why)) (a : ℕ) → AreTold whys a
      → map (λ k. k.place) (reasons_from a whys) ≡ filter (has_clue game p) (range_with_len a (length whys))
  unfolding reasons_from
  told_places [] a told = refl
  told_places (None ∷ whys) a told = rw (add-one, told a 0 (omega arith)) (told_places whys (suc a) (λ k i e. told k (suc i) (omega arith)))
  told_places (Some why ∷ whys) a told =
      rw (add-one, (told a 0 (omega arith)).0) (ap (λ xs. a ∷ xs) (told_places whys (suc a) (λ k i e. told k (suc i) (omega arith))))

  told_reasons : (whys : List (Option Why)) (a : ℕ) → AreTold whys a → All (λ k. IsReason game budget all p k.place k.why) (reasons_from a whys)
  unfolding reasons_from
  told_reasons [] a told = All-nil (λ k. IsReason game budget all p k.place k.why)
  told_reasons (None ∷ whys) a told = told_reasons whys (suc a) (λ k i e. told k (suc i) (omega arith))
  told_reasons (Some why ∷ whys) a told =
      All-cons (λ k. IsReason game budget all p k.place k.why) _ _ (told a 0 (omega arith)).1
      (told_reasons whys (suc a) (λ k i e. told k (suc i) (omega arith)))

-- all clues were tried
pub all_tried : {A : Type 0} {game : CluedGame A} {budget : ℕ} {all p : A} {whys : List (Option Why)} (order : List ℕ) {k : ℕ} → length order ≤ k
    → IsThinning game budget all p whys (drop k order) → IsThinning game budget all p whys []
all_tried {game} {budget} {all} {p} {whys} order {k} over left = grind (arith, common_steps)

module _ {A : Type 0} {game : CluedGame A} (laws : IsGame game) {budget : ℕ} {all p : A} (answer : List ℕ) {whys : List (Option Why)}
    (now : IsThinning game budget all p whys []) where
  all_told : AreTold game budget all p whys 0
  all_told k i e = let same : k ≡ i = omega arith in rw same (by (now.told i))
    where
      by : Contains [] i ⊎ IsTold game budget all p i (get_or whys i None) → IsTold game budget all p i (get_or whys i None)
      by (inl held) = absurd (omega (arith, held.1))
      by (inr told) = told

  pub reasons_left : {kept : List Kept} → all ≡ game.all_clues all answer → kept ≡ reasons_from 0 whys → AreReasons game budget (game.all_clues p answer) p kept
  reasons_left whole is = rw (laws.same_all p all answer now.within.frame, ← whole, is) (record {
    places = told_places game budget all p whys 0 all_told
        ∙ ap (λ n. filter (has_clue game p) (range_with_len 0 n)) (now.room ∙ sym (laws.same_cells p all now.within.frame));
    reasons = told_reasons game budget all p whys 0 all_told;
  })

  -- the one solution is still the answer
  pub answer_left : IsOnly (game.rules all) answer → IsOnly (game.rules p) answer × TellsOne (game.rules p) budget answer
  answer_left only = grind (arith, common_steps)

-- before any clue is tried
pub thinning_start : {A : Type 0} {game : CluedGame A} → IsGame game → (budget : ℕ) (p : A) (answer : List ℕ) {order : List ℕ} (whys : List (Option Why))
    → IsOnly (game.rules p) answer → TellsOne (game.rules p) budget answer → IsPermutation (clue_places game p) order
    → whys ≡ replicate (game.cells p) None → IsThinning game budget p p whys order
thinning_start {game} laws budget p answer {order} whys only found mixed blank = record {
  within = within_itself laws;
  one = record { answer = answer; found = found; only = only };
  waiting =
      λ place held. All-contains (λ c. has_clue game p c ≡ true) (clue_places game p) place
      (filter_passes (has_clue game p) (range_with_len 0 (game.cells p)))
      (Contains-permutation _ _ place (IsPermutation-sym _ _ mixed) held);
  different = IsDistinct-IsPermutation eqb nat_eq_equiv.symm _ _ mixed (distinct_filtered_range (has_clue game p) 0 (game.cells p));
  told = λ place. by place (has_clue game p place) refl;
  room = ap length blank ∙ length-replicate (game.cells p) None;
}
  where
    held_in : (place n : ℕ) → has_clue game p place ≡ true → game.clue p place ≡ Some n → Contains order place
    held_in place n held e = Contains-permutation _ _ place mixed (passes_kept (has_clue game p) (game.cells p) place (laws.clue_in p place n e) held)

    by : (place : ℕ) → (b : Bool) → has_clue game p place ≡ b → Contains order place ⊎ IsTold game budget p p place (get_or whys place None)
    by place true held = let n = some_of (game.clue p place) held in inl (held_in place n.0 held n.1)
    by place false lacks =
        inr (subst (λ o. IsTold game budget p p place o)
        (sym (ap (λ xs. get_or xs place None) blank ∙ blank_at (game.cells p) place)) (none_of lacks))

-- A puzzle that lacks a needed clue is within the puzzle without that clue alone.
lacking_within : {A : Type 0} {game : CluedGame A} → IsGame game → (p q : A) (place n : ℕ) → IsThinnedFrom game q p
    → game.clue p place ≡ Some n → has_clue game q place ≡ false
    → IsThinnedFrom game q (game.without p place)
lacking_within laws p q place n w e lacks = grind (arith, common_steps, cases_eq)

-- the reason of a clue that is left
needed_at : {A : Type 0} (game : CluedGame A) {budget : ℕ} (all p : A) (kept : List Kept) (place : ℕ)
    → AreReasons game budget all p kept → All (λ k. k.why ≡ Needed) kept
    → Contains (map (λ k. k.place) kept) place → HasTwo (game.rules (game.without p place))
needed_at game {budget} all p kept place reasons needed listed =
    let entry : Kept = record { place = place; why = Needed } in
    let below : listed.0 < length kept = omega (arith, listed.1, length-map kept (λ k. k.place)) in
    let here = sym (get_or-map _ kept listed.0 entry place below) ∙ listed.2 in
    subst (λ x. IsReason game budget all p x Needed) here
    (subst (λ w. IsReason game budget all p (get_or kept listed.0 entry).place w) (needed listed.0 entry below)
    (reasons.reasons listed.0 entry below))

pub none_is_idle : {A : Type 0} {game : CluedGame A} → IsGame game → LeavesNoIdleClue game
none_is_idle {game} laws budget all p q kept place reasons needed w has lacks =
    let n = some_of (game.clue p place) has in
    let listed = passes_kept (has_clue game p) (game.cells p) place (laws.clue_in p place n.0 n.1) has in
    two_in laws (lacking_within laws p q place n.0 w n.1 lacks)
    (needed_at game all p kept place reasons needed (subst (λ xs. Contains xs place) (sym reasons.places) listed))

-- what the taking away of clues cites, and that fewer clues lose no solution
pub ruleset clue_laws = (set_back, clue_is, numbered_is)

pub ruleset fewer_laws = (solved_by_fewer, lights_by_fewer)
