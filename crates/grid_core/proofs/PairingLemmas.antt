-- Pairings: short sets, mates, and the steps of a search for one.
use Rattle.grid_core.proofs.Common.{All-from_get_or, All-get_or, All-permutation, AllPairs-from_increasing, Any, Any-from_list_any, AreMatesJoined, AreOwners, AreLeftsReached, Bool, Contains, Contains-permutation, Decides-like, Decides-ltb, Extends, FrontierView, IsApart, IsBlocked, IsExplored, IsDistinct, IsDistinct-from_AllPairs, IsFree, IsFreeFor, IsMateOfLater, IsNonDecreasingBy-from_sort, IsPermutation, IsFrontierOf, IsShortSet, IsSorted, IsStrictlyIncreasing, IsStrictlyIncreasing-filter, IsTrue, List, MatesView, None, Option, ReachesOwners, Some, [], and_from, and_parts, ap, arith, cases_eq, cases_lt, common_steps, count_by, drop, eqb, eqb-false, false, filter, get_or, get_or-append_seam, get_or-map, get_or-range_with_len, get_or_default, get_or_past, inl, inr, is_member-Decides, is_member-filter, length, length-append, length-drop, length-filter, length-le_from_is_member, length-map, length-range_with_len, length-set, length-take, length_permutation, list_any, list_any-IsPermutation, list_any_at, lt-ltb, ltb, ltb-true, map, nat_cmp, nat_eq_equiv, range_with_len, refl, same_from_decides, set, subst, sym, take, take_more_set, true, unsigned_Decides, with_left, ℕ, ◌&&◌, ◌++◌, ◌+◌, ◌-◌, ◌<◌, ◌∙◌, ◌∷◌, ◌≡◌, ◌≤◌}
use Rattle.std.specs.Set.{is_member}
use Rattle.std.proofs.lemmas.Map.Steps.{length-le_from_distinct_below}
use Rattle.std.proofs.lemmas.Map.Keys.{IsDistinct-IsPermutation, IsStrictlyIncreasing-from_distinct, apart_from_distinct}

-- What a left's new mate does to the owners of rights.

-- a right that has an owner is one of the rights
pub mate_in : (owners : List (Option ℕ)) (r : ℕ) {l : ℕ} → get_or owners r None ≡ Some l → r < length owners
mate_in owners r h = grind (arith, common_steps, get_or_past)

-- the next left takes a free right
pub AreOwners-push : {mates : List ℕ} {count : ℕ} (right : ℕ) → length mates ≡ count
    → {owners : List (Option ℕ)} → AreOwners owners mates → right < length owners → IsFree mates right
    → AreOwners (set owners right (Some count)) (mates ++ right ∷ [])
AreOwners-push right len p inside free = record {
  owned = λ l h. let a = free l in let b = p.owned l in grind (arith, common_steps);
  own = λ r l h. let b = p.own r l in (grind (arith, common_steps), grind (arith, common_steps));
}

-- a left takes a free right in place of its mate
pub AreOwners-replace : {mates : List ℕ} (left right : ℕ) → left < length mates
    → {owners : List (Option ℕ)} → AreOwners owners mates → right < length owners → IsFree mates right
    → AreOwners (set (set owners (get_or mates left 0) None) right (Some left)) (set mates left right)
AreOwners-replace {mates} left right left_in {owners} p inside free =
    let had = p.owned left left_in in
    let old_in = mate_in owners (get_or mates left 0) had in
    record {
      owned = λ l h. grind (arith, common_steps, cases_eq);
      own = λ r l h. let b = p.own r l in (grind (arith, common_steps), grind (arith, common_steps));
    }

-- A short set rules out every choice of different joined rights.

-- a test of membership says that the number stands in the list
pub contains_from_member : (xs : List ℕ) (q : ℕ) → is_member eqb xs q ≡ true → Contains xs q
contains_from_member xs q h = (is_member-Decides unsigned_Decides xs q).0 h

pub member_from_contains : (xs : List ℕ) (q : ℕ) → Contains xs q → is_member eqb xs q ≡ true
member_from_contains xs q h = (is_member-Decides unsigned_Decides xs q).1 h

member_of_range : (n q : ℕ) → is_member eqb (range_with_len 0 n) q ≡ ltb q n
member_of_range n q = same_from_decides _ _ (is_member-Decides unsigned_Decides (range_with_len 0 n) q) (Decides-like (ltb q n)
    (λ h. (q, omega (arith, length-range_with_len 0 n), omega (arith, get_or-range_with_len 0 n q q h)))
    (λ w. let below : w.0 < n = omega (arith, w.1, length-range_with_len 0 n) in omega (arith, w.2, get_or-range_with_len 0 n w.0 q below))
    (Decides-ltb q n))

-- a filter of the numbers below n keeps those that pass
pub member_of_filter : (p : ℕ → Bool) (n q : ℕ) → is_member eqb (filter p (range_with_len 0 n)) q ≡ (ltb q n && p q)
member_of_filter p n q =
    is_member-filter nat_eq_equiv p q (λ x e. ap p ((unsigned_Decides q x).0 e)) (range_with_len 0 n)
    ∙ ap (λ b. b && p q) (member_of_range n q)

module _ (joins : ℕ → ℕ → Bool) (lefts rights : ℕ) (xs : List ℕ) (short : IsShortSet joins lefts rights xs) (right_of : ℕ → ℕ)
    (in_range : (l : ℕ) → l < lefts → right_of l < rights)
    (joined : (l : ℕ) → l < lefts → joins l (right_of l) ≡ true)
    (own : (l m : ℕ) → l < lefts → m < lefts → right_of l ≡ right_of m → l ≡ m) where
  at_map : (i d : ℕ) → i < length (map right_of xs) → get_or (map right_of xs) i d ≡ right_of (get_or xs i 0)
  at_map i d h = get_or-map right_of xs i 0 d (omega (arith, length-map xs right_of))

  entry_in : (i : ℕ) → i < length xs → get_or xs i 0 < lefts
  entry_in i h = All-get_or (λ l. l < lefts) xs i 0 h short.in_range

  chosen_apart : IsDistinct eqb (map right_of xs)
  chosen_apart = grind (arith, common_steps, AllPairs-from_increasing, IsDistinct-from_AllPairs, at_map, entry_in, length-map)

  chosen_joined : (q : ℕ) → is_member eqb (map right_of xs) q ≡ true
      → is_member eqb (filter (λ r. list_any (λ l. joins l r) xs) (range_with_len 0 rights)) q ≡ true
  chosen_joined q h = grind (arith, common_steps, and_from, at_map, contains_from_member, entry_in, length-map, list_any_at, lt-ltb, member_of_filter)

  pub no_choice : ⊥
  no_choice =
      let few : length (map right_of xs) ≤ length (filter (λ r. list_any (λ l. joins l r) xs) (range_with_len 0 rights)) =
      length-le_from_is_member nat_eq_equiv _ _ chosen_apart chosen_joined in
      let f = short.fewer in
      absurd (omega (arith, length-filter (λ r. list_any (λ l. joins l r) xs) (range_with_len 0 rights), length-map xs right_of))

-- Lists of different numbers are no longer than what holds them.

-- the first `count` entries, all different and below n, are at most n
pub apart-le : (xs : List ℕ) (count n : ℕ) → count ≤ length xs → IsApart xs count
    → ((j : ℕ) → j < count → get_or xs j 0 < n) → count ≤ n
apart-le xs count n fits apart below =
    let within : length (take count xs) ≤ n = length-le_from_distinct_below (take count xs) n
    (IsDistinct-from_AllPairs unsigned_Decides (take count xs) (λ i j d a b e. let c = apart.differ i j a in grind (arith, common_steps)))
    (λ q h. let w = contains_from_member (take count xs) q h in let b = below w.0 in grind (arith, common_steps)) in
    grind (arith, common_steps)

-- what a filter keeps of a range is different
pub distinct_filtered_range : (p : ℕ → Bool) (a n : ℕ) → IsDistinct eqb (filter p (range_with_len a n))
distinct_filtered_range p a n = IsDistinct-from_AllPairs unsigned_Decides _ (λ i j d below within same.
    let up = AllPairs-from_increasing _ (IsStrictlyIncreasing-filter p (range_with_len a n) (λ k h.
    let inside : k + 1 < n = omega (arith, h, length-range_with_len a n) in
    omega (arith, get_or-range_with_len a n k 0 (omega arith), get_or-range_with_len a n (k + 1) 0 inside))) i j d below within in
    omega arith)

-- the numbers below n that pass are no more than the entries of a list that holds each of them
pub count_by-le : (p : ℕ → Bool) (n : ℕ) (ys : List ℕ) → ((r : ℕ) → r < n → p r ≡ true → Contains ys r)
    → count_by p (range_with_len 0 n) ≤ length ys
count_by-le p n ys held =
    let within : length (filter p (range_with_len 0 n)) ≤ length ys =
    length-le_from_is_member nat_eq_equiv _ ys (distinct_filtered_range p 0 n) (λ q h.
    let w = and_parts (ltb q n) (p q) (sym (member_of_filter p n q) ∙ h) in
    member_from_contains ys q (held q (ltb-true q n w.0) w.1)) in
    omega (arith, length-filter p (range_with_len 0 n))

-- The steps of a search: the rights of a left are walked, and the lefts reached, and mates change on the way back.

-- what stands while the rights of a left are walked, as far as `from`
pub record IsScan (joins : ℕ → ℕ → Bool) (mates : List ℕ) (old frontier : FrontierView) (left from : ℕ) : Type 0 where
  pub room : frontier.room ≡ old.room
  pub reach : IsFrontierOf joins mates frontier
  pub grown : Extends old.lefts frontier.lefts
  pub owners : ReachesOwners joins mates frontier.lefts left from

-- the owner of a right is reached from the left at `head`, which the right is joined to
IsFrontierOf-push : {joins : ℕ → ℕ → Bool} {mates : List ℕ} {frontier : FrontierView} → IsFrontierOf joins mates frontier
    → {head right owner : ℕ} → head < length frontier.lefts → IsTrue (joins (get_or frontier.lefts head 0) right)
    → owner < length mates → get_or mates owner 0 ≡ right
    → IsFrontierOf joins mates (record frontier { lefts = frontier.lefts ++ owner ∷ []; parents = frontier.parents ++ head ∷ [] })
IsFrontierOf-push {frontier} reach head_in joined owner_in owns =
    let some = reach.some in
    let root = reach.root in
    let as_many = reach.as_many in
    record {
      some = grind (arith, common_steps);
      root = grind (arith, common_steps);
      paired = λ j pos h. let a = reach.paired j pos in grind (arith, common_steps);
      as_many = grind (arith, common_steps);
      before = λ j pos h. let a = reach.before j pos in grind (arith, common_steps);
      joined = λ j pos h. let a = reach.joined j pos in let b = reach.before j pos in elim (cases_eq j (length frontier.lefts)) [
        | inl z ↦ grind (arith, common_steps)
        | inr nz ↦ grind (arith, common_steps)
      ];
    }

-- a list begins with itself, also after one more
Extends-push : {xs : List ℕ} (y : ℕ) → Extends xs (xs ++ y ∷ [])
Extends-push y = record { grown = grind (arith, common_steps); kept = λ j h. grind (arith, common_steps) }

Extends-chain : {xs ys zs : List ℕ} → Extends xs ys → Extends ys zs → Extends xs zs
Extends-chain e f = grind (arith, common_steps)

mate_kept : (mates : List ℕ) {xs ys : List ℕ} {r : ℕ} → Extends xs ys → IsMateOfLater mates xs r → IsMateOfLater mates ys r
mate_kept mates e w = let a = e.grown in (w.0, w.1, omega arith, ap (λ l. get_or mates l 0) (e.kept w.0 w.2) ∙ w.3)

-- an owner that was reached isn't the root, which has no mate
mate_of_reached : {joins : ℕ → ℕ → Bool} {mates : List ℕ} {frontier : FrontierView} {owner r : ℕ} → IsFrontierOf joins mates frontier
    → Contains frontier.lefts owner → owner < length mates → get_or mates owner 0 ≡ r → IsMateOfLater mates frontier.lefts r
mate_of_reached reach w owner_in owns = grind (arith, common_steps, get_or_default)

-- a joined right is passed: it is free, its owner was reached before, or its owner is reached now
module _ {joins : ℕ → ℕ → Bool} {mates : List ℕ} {old frontier : FrontierView} {left from right : ℕ}
    (s : IsScan joins mates old frontier left from)
    (between : (q : ℕ) → from ≤ q → q < right → IsTrue (joins left q) → ⊥) where
  IsScan-step : {more : FrontierView} → more.room ≡ frontier.room → IsFrontierOf joins mates more → Extends frontier.lefts more.lefts
      → ((IsFree mates right → ⊥) → IsMateOfLater mates more.lefts right)
      → IsScan joins mates old more left (right + 1)
  IsScan-step room reach grown here = record {
    room = room ∙ s.room;
    reach = reach;
    grown = Extends-chain s.grown grown;
    owners = λ r h j n. elim (cases_eq r right) [
      | inl e ↦ rw e (here (rw (sym e) n))
      | inr ne ↦ elim (cases_lt r from) [
        | inl low ↦ mate_kept mates grown (s.owners r low j n)
        | inr high ↦ absurd (between r (omega arith) (omega arith) j)
      ]
    ];
  }

  pub IsScan-free : IsFree mates right → IsScan joins mates old frontier left (right + 1)
  IsScan-free free = IsScan-step refl s.reach (record { grown = omega arith; kept = λ j h. refl }) (λ n. absurd (n free))

  module _ {owner : ℕ} (owns : (owner < length mates) × (get_or mates owner 0 ≡ right)) where
    pub IsScan-known : Contains frontier.lefts owner → IsScan joins mates old frontier left (right + 1)
    IsScan-known w = IsScan-step refl s.reach (record { grown = omega arith; kept = λ j h. refl })
        (λ n. mate_of_reached s.reach w owns.0 owns.1)

    pub IsScan-push : {head : ℕ} → head < length old.lefts → left ≡ get_or old.lefts head 0 → IsTrue (joins left right)
        → IsScan joins mates old (record frontier { lefts = frontier.lefts ++ owner ∷ []; parents = frontier.parents ++ head ∷ [] }) left (right + 1)
    IsScan-push {head} head_in left_is joined =
        let within : head < length frontier.lefts = let a = s.grown.grown in omega arith in
        let reach = IsFrontierOf-push s.reach within (rw (s.grown.kept head head_in, sym left_is) joined) owns.0 owns.1 in
        IsScan-step refl reach (Extends-push owner)
        (λ n. mate_of_reached reach
        (length frontier.lefts, omega (arith, length-append frontier.lefts (owner ∷ [])), get_or-append_seam frontier.lefts owner [] owner) owns.0 owns.1)

-- the rights of one more left are the mates of lefts that were reached
pub IsExplored-step : (joins : ℕ → ℕ → Bool) {rights : ℕ} (mates : List ℕ) {lefts more : List ℕ} {head : ℕ} → head < length lefts
    → IsExplored joins rights mates lefts head → Extends lefts more
    → IsBlocked joins rights mates (get_or lefts head 0) → ReachesOwners joins mates more (get_or more head 0) rights
    → IsExplored joins rights mates more (head + 1)
IsExplored-step joins mates {more} {head} head_in closed grown blocked owners j r a b h = grind (arith, cases_eq, mate_kept, grown.kept)

-- what stands while a right is free for the left at `place`
pub record IsShifting (joins : ℕ → ℕ → Bool) (rights : ℕ) (old mates : MatesView) (frontier : FrontierView) (place right : ℕ) : Type 0 where
  pub room : mates.room ≡ old.room
  pub as_many : length mates.mates ≡ length old.mates
  pub joined : AreMatesJoined joins rights mates.mates
  pub place_in : place < length frontier.lefts
  pub way : (j : ℕ) → 0 < j → j ≤ place
      → IsTrue (joins (get_or frontier.lefts (get_or frontier.parents j 0) 0) (get_or mates.mates (get_or frontier.lefts j 0) 0))
  pub free : IsFreeFor joins rights mates.mates (get_or frontier.lefts place 0) right

-- lefts whose rights are all mates of those after the first have too few of them
module _ (joins : ℕ → ℕ → Bool) (lefts rights : ℕ) (mates : List ℕ) (frontier : FrontierView) (sorted : List ℕ)
    (reach : IsFrontierOf joins mates frontier) (closed : IsExplored joins rights mates frontier.lefts (length frontier.lefts))
    (same : IsPermutation frontier.lefts sorted) (root_in : length mates < lefts) where
  later_mates : List ℕ
  later_mates = drop 1 (map (λ l. get_or mates l 0) frontier.lefts)

  mate_held : (r : ℕ) → IsMateOfLater mates frontier.lefts r → Contains later_mates r
  unfolding later_mates
  mate_held r w =
      let at = get_or-map (λ l. get_or mates l 0) frontier.lefts w.0 0 r w.2 in
      (w.0 - 1, grind (arith, common_steps), grind (arith, common_steps))

  joined_held : (r : ℕ) → r < rights → Any (λ l. joins l r ≡ true) frontier.lefts → Contains later_mates r
  joined_held r h w = mate_held r (closed w.0 r w.2 h (subst (λ l. joins l r ≡ true) (sym w.3 ∙ get_or_default frontier.lefts w.0 w.1 0 w.2) w.4))

  low : (i : ℕ) → i < length frontier.lefts → get_or frontier.lefts i 0 < lefts
  low i h = grind (arith, common_steps, cases_eq i 0, reach.root, reach.paired i)

  pub IsShortSet-from_closed : IsStrictlyIncreasing sorted → IsShortSet joins lefts rights sorted
  unfolding later_mates
  IsShortSet-from_closed up = record {
    ascending = up;
    in_range = All-permutation (λ l. l < lefts) frontier.lefts sorted same (All-from_get_or (λ l. l < lefts) frontier.lefts 0 low);
    fewer =
        let few = count_by-le (λ r. list_any (λ l. joins l r) sorted) rights later_mates
        (λ r h e. joined_held r h
        (Any-from_list_any (λ l. joins l r) frontier.lefts
        (list_any-IsPermutation (λ l. joins l r) frontier.lefts sorted same ∙ e))) in
        let some = reach.some in
        omega (
          arith,
          length-drop 1 (map (λ l. get_or mates l 0) frontier.lefts),
          length-map frontier.lefts (λ l. get_or mates l 0),
          length_permutation frontier.lefts sorted same,
        );
  }

-- What is done to the lefts that a search has reached.

-- what is marked is one of the entries
marked_in : (seen : List Bool) {l : ℕ} → get_or seen l false ≡ true → l < length seen
marked_in seen h = grind (arith, common_steps, get_or_past)

-- no more lefts are reached than there is room for
pub reached-le : (seen : List Bool) (lefts : List ℕ) → AreLeftsReached seen lefts → length lefts ≤ length seen
reached-le seen lefts r =
    apart-le lefts (length lefts) (length seen) (omega arith) r.apart (λ j h. marked_in seen (r.seen_each j h))

-- a left that wasn't reached is
pub AreLeftsReached-push : {seen : List Bool} {lefts : List ℕ} (left : ℕ) → AreLeftsReached seen lefts
    → left < length seen → (Contains lefts left → ⊥) → AreLeftsReached (set seen left true) (lefts ++ left ∷ [])
AreLeftsReached-push {lefts} left r inside new = record {
  apart = record { differ = λ i j a b e. let c = r.apart.differ i j a in let d = is_new i in grind (arith, common_steps) };
  seen_each = λ j h. let c = r.seen_each j in grind (arith, common_steps);
  seen_only = λ l h. elim (cases_eq l left) [
    | inl e ↦ (length lefts, grind (arith, common_steps), grind (arith, common_steps))
    | inr ne ↦ let w = r.seen_only l (grind (arith, common_steps)) in (w.0, grind (arith, common_steps), grind (arith, common_steps))
  ];
}
  where
    is_new : (j : ℕ) → j < length lefts → get_or lefts j 0 ≡ left → ⊥
    is_new j h e = new (j, h, get_or_default lefts j left 0 h ∙ e)

-- there is room for it behind those in the queue
module _ {seen : List Bool} (queue parents : List ℕ) {room count left : ℕ} {v : FrontierView}
    (is : ◌≡◌ {A = FrontierView} (record { room = room; lefts = take count queue; parents = take count parents }) v)
    (r : AreLeftsReached seen (take count queue)) (marks : length seen ≡ room) (fits : count ≤ length queue)
    (left_in : left < v.room) (new : Contains v.lefts left → ⊥) where
  pushed : AreLeftsReached (set seen left true) (take count queue ++ left ∷ [])
  pushed = AreLeftsReached-push left r
      (let e = ap (λ (w : FrontierView). w.room) is in omega arith) (rw (ap (λ (w : FrontierView). w.lefts) is) new)

  pub room_for_left : count < length seen
  room_for_left = grind (arith, common_steps, length-append, length-set, length-take, pushed, reached-le)

  pub AreLeftsReached-write : count < length queue → AreLeftsReached (set seen left true) (take (count + 1) (set queue count left))
  AreLeftsReached-write within = rw (take_more_set queue count left within) pushed

-- and what is seen of it then
pub view-write : (queue parents : List ℕ) (room count left parent : ℕ) {v : FrontierView}
    → ◌≡◌ {A = FrontierView} (record { room = room; lefts = take count queue; parents = take count parents }) v
    → count < length queue → count < length parents
    → ◌≡◌ {A = FrontierView}
    (record { room = room; lefts = take (count + 1) (set queue count left); parents = take (count + 1) (set parents count parent) })
    (with_left v left parent)
view-write queue parents room count left parent is queue_room parents_room = grind (arith, common_steps, take_more_set)

-- lefts that were put in order ascend, stay different, and stay those that are seen
module _ {seen : List Bool} {lefts : List ℕ} (sorted : List ℕ) (r : AreLeftsReached seen lefts)
    (same : IsPermutation lefts sorted) (up : IsSorted nat_cmp sorted) where
  distinct : IsDistinct eqb sorted
  distinct = IsDistinct-IsPermutation eqb nat_eq_equiv.symm lefts sorted same (IsDistinct-from_AllPairs unsigned_Decides lefts
      (λ i j d a b e. let c = r.apart.differ i j a in grind (arith, common_steps)))

  pub ascending : IsStrictlyIncreasing sorted
  ascending = IsStrictlyIncreasing-from_distinct sorted (IsNonDecreasingBy-from_sort (λ x. x) sorted up) distinct

  pub AreLeftsReached-sort : AreLeftsReached seen sorted
  AreLeftsReached-sort =
      let each = All-permutation (λ l. get_or seen l false ≡ true) lefts sorted same (All-from_get_or (λ l. get_or seen l false ≡ true) lefts 0 r.seen_each) in
      record {
        apart = record { differ = λ i j a b. eqb-false _ _ (apart_from_distinct eqb sorted i j 0 distinct a b) };
        seen_each = λ j h. All-get_or (λ l. get_or seen l false ≡ true) sorted j 0 h each;
        seen_only = λ l h. Contains-permutation lefts sorted l same (r.seen_only l h);
      }
