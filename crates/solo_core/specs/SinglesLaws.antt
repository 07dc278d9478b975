-- Laws of singles: what they strike from larger sets they strike from smaller ones, and from a solution's own values
-- they strike nothing.
use Rattle.std.proofs.lemmas.Grind.{common_steps}
use Rattle.std.proofs.Common.{◌≡◌, ℕ, ◌<◌, Bool, true, false, not, ◌&&◌, ◌||◌, true≢false, eqb, List, length, get_or, refl, sym, ◌∙◌, ap, subst, arith, inl, inr}
use Rattle.solo_core.specs.Common.{cases_Bool, and_from, or_left, or_right, eqb-true, eq-eqb, not-true, false_from_ne_true, nat_tests, any_below, any_below-here, any_below-some, any_below-none, Set, Keeps, IsMonotone, no_repeat}
use Rattle.solo_core.specs.SolutionLaws.{own_from_no_repeat, none_missing}
use Rattle.solo_core.specs.Singles.{Has, has_other, is_elsewhere, taken_elsewhere, needed_for_other, has_empty_cell, strikes_where, has_at, strikes_by_singles}

none_below : (test : ℕ → Bool) (n : ℕ) → ((k : ℕ) → k < n → test k ≡ true → ⊥) → any_below test n ≡ false
none_below test n none = grind (arith, common_steps, false_from_ne_true, any_below-some)

fails_below : (test : ℕ → Bool) {n : ℕ} → any_below test n ≡ false → {k : ℕ} → k < n → test k ≡ true → ⊥
fails_below test {n} off {k} lt on = true≢false (sym on ∙ any_below-none test n off k lt)

-- ---- a strike has one of four causes
or_stays : {a b c d : Bool} (a' b' : Bool) {c' d' : Bool} → (a ≡ true → (a' || c') ≡ true)
    → (b ≡ true → (b' || d') ≡ true) → (c ≡ true → c' ≡ true) → (d ≡ true → d' ≡ true)
    → (a || (b || (c || d))) ≡ true → (a' || (b' || (c' || d'))) ≡ true
or_stays a' b' f g h i on = grind arith

-- ---- smaller sets
module _ (cells values : ℕ) (at at' : Has) (down : (k v : ℕ) → k < cells → v < values → at' k v ≡ true → at k v ≡ true) where
  empty_stays : has_empty_cell cells values at ≡ true → has_empty_cell cells values at' ≡ true
  empty_stays h =
      let w = any_below-some (λ j. not (any_below (at j) values)) cells h in
      any_below-here (λ j. not (any_below (at' j) values)) cells w.0 w.1
      (ap not (none_below (at' w.0) values (λ v b e. fails_below (at w.0) (not-true (any_below (at w.0) values) w.2) b (down w.0 v w.1 b e))))

  -- a cell that has only the value has at most the value in smaller sets: it has it, or is empty
  taken_stays : (place value : ℕ) → taken_elsewhere cells values at place value ≡ true
      → (taken_elsewhere cells values at' place value || has_empty_cell cells values at') ≡ true
  taken_stays place value h =
      let w = any_below-some (λ j. not (eqb j place) && (at j value && not (has_other values at j value))) cells h in
      let alone : has_other values at w.0 value ≡ false = grind (arith, w.2) in
      let no_other : (u : ℕ) → u < values → not (eqb u value) ≡ true → at' w.0 u ≡ true → ⊥ = λ u b ne e.
      fails_below (λ u. not (eqb u value) && at w.0 u) alone b (and_from (not (eqb u value)) (at w.0 u) ne (down w.0 u w.1 b e)) in
      elim (cases_Bool (at' w.0 value)) [
        | inl has ↦
            let none : has_other values at' w.0 value ≡ false =
            none_below (λ u. not (eqb u value) && at' w.0 u) values
            (λ u b e. no_other u b (grind arith) (grind arith)) in
            or_left (taken_elsewhere cells values at' place value) (has_empty_cell cells values at')
            (any_below-here (λ k. not (eqb k place) && (at' k value && not (has_other values at' k value))) cells w.0 w.1 (grind (arith, w.2)))
        | inr lacks ↦ or_right (taken_elsewhere cells values at' place value) (has_empty_cell cells values at')
            (any_below-here (λ k. not (any_below (at' k) values)) cells w.0 w.1
            (ap not (none_below (at' w.0) values
            (λ u b e. no_other u b (grind (arith, nat_tests)) e))))
      ]

-- values are to cells as cells are to values: a value's only place is a cell's only value, a lost value an empty cell
pub strikes_stay : (cells values : ℕ) (at at' : Has) → ((k v : ℕ) → k < cells → v < values → at' k v ≡ true → at k v ≡ true) → (place value : ℕ)
    → strikes_where cells values at place value ≡ true → strikes_where cells values at' place value ≡ true
unfolding strikes_where
strikes_stay cells values at at' down place value = or_stays
    (taken_elsewhere cells values at' place value) (needed_for_other cells values at' place value)
    (taken_stays cells values at at' down place value) (taken_stays values cells (λ w j. at j w) (λ w j. at' j w) (λ w j lw lj. down j w lj lw) value place)
    (empty_stays cells values at at' down) (empty_stays values cells (λ w j. at j w) (λ w j. at' j w) (λ w j lw lj. down j w lj lw))

pub singles-monotone : (values : ℕ) → IsMonotone (strikes_by_singles values)
singles-monotone values smaller larger k v inside on =
    rw inside.as_many (strikes_stay _ values _ _ (λ j w lj lw. inside.inside j w (omega arith)) k v on)

-- from cells that have one value each, all different, nothing is struck
module _ (n : ℕ) (f : List ℕ) (long : length f ≡ n) (holds : no_repeat f ≡ true) (small : (k : ℕ) → k < n → get_or f k 0 < n) where
  own_stays : (k : ℕ) → k < n → strikes_where n n (λ j u. eqb (get_or f j 0) u) k (get_or f k 0) ≡ false
  unfolding strikes_where
  own_stays k lk = rw (
    none_below (λ j. not (eqb j k) && (eqb (get_or f j 0) (get_or f k 0) && not (has_other n (λ j u. eqb (get_or f j 0) u) j (get_or f k 0)))) n
        (λ j lj on. let own = own_from_no_repeat f holds j k (omega arith) (omega arith) in grind (arith, nat_tests)),
    none_below (λ u. not (eqb u (get_or f k 0)) && (eqb (get_or f k 0) u && not (is_elsewhere n (λ j u. eqb (get_or f j 0) u) k u))) n
        (λ u lu on. grind (arith, nat_tests)),
    none_below (λ j. not (any_below (λ u. eqb (get_or f j 0) u) n)) n
        (λ j lj on. fails_below (λ u. eqb (get_or f j 0) u) (not-true _ on) (small j lj) (eq-eqb _ _ refl)),
    none_below (λ u. not (any_below (λ j. eqb (get_or f j 0) u) n)) n
        (λ u lu on. let w = none_missing n f long holds small lu in fails_below (λ j. eqb (get_or f j 0) u) (not-true _ on) w.1 (eq-eqb _ _ w.2)),
  ) refl

  -- nor is it from cells that have more values
  pub shown_stays : (sets : List Set) → length sets ≡ n → ((k : ℕ) → k < n → has_at sets k (get_or f k 0) ≡ true) → (k : ℕ) → k < n
      → strikes_by_singles n sets k (get_or f k 0) ≡ false
  shown_stays sets all has k lk = false_from_ne_true (strikes_by_singles n sets k (get_or f k 0)) (λ on.
      true≢false (sym (strikes_stay n n (has_at sets) _ (λ j u lj lu e. rw (eqb-true (get_or f j 0) u e) at (has j lj)) k
      _
      (subst (λ m. strikes_where m n (has_at sets) k (get_or f k 0) ≡ true) all on)) ∙ own_stays k lk))

  -- cells that have these values alone lose none
  pub singles-keeps : Keeps (strikes_by_singles n) f
  singles-keeps sets k own lt = shown_stays sets (own.as_many ∙ long)
      (λ j lj. own.own j (get_or f j 0) (omega arith) ∙ eq-eqb _ _ refl) k (omega arith)
