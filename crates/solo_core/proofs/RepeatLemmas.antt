-- What a house that holds a number twice says of the grid, and what a house that does not rules out.
use Rattle.solo_core.proofs.Common.{Block, Bool, Column, Diagonal, FailsSolo, Given, IsGrid, IsSoloHouse, IsSolo, IsSoloFault, IsSoloSolution, List, NamedHouse, None, Option, Repeats, Row, Solo, Some, [], all_houses, and_cases, ap, arith, cases_eq, common_steps, contains_from_member, differ_in, different_from_no_repeat, each_house, eqb, eqb-true, false, false_from_ne_true, fault_of, get_or, get_or-map, get_or_default, given_from_test, given_stands, given_tests, has_bit, house_tests, houses_of, inl, inr, is_solo_solution, is_some, length, length-map, list_any, lists_house, nat_tests, no_repeat, no_repeat_from_different, not, not-false, numbers_of, or_cases, places_of, refl, rule_from_test, slice_index, solo_cells, solo_n, subst, suc, sym, test_from_rule, true, true≢false, zero-bits, ℕ, ◌++◌, ◌+◌, ◌<◌, ◌||◌, ◌∙◌, ◌∷◌, ◌≡◌, ◌≤◌}
use Rattle.solo_core.specs.declared.fault.SoloFault.{SoloFault}
use Rattle.std.specs.List.{AllByRecursion}
use Rattle.std.proofs.lemmas.List.Elements.{All-map, recursion_from_All}
use Rattle.gameid_core.specs.FirstFailed.{IsFirstFailed, IsFirstOf, NoneFails}
use Rattle.gameid_core.proofs.FirstFailed.{Holds, IsKnown, IsKindMade, TestKind, all_split, each, first_at, first_each, first_front, first_rest, known_tests, none_held, none_tells, right_none}
use Rattle.gameid_core.proofs.LineLaws.{AllByRecursion-append, all_at}

-- where the numbers repeat, two entries are equal
pub repeat_found : (xs : List ℕ) → no_repeat xs ≡ false → (i : ℕ) × (j : ℕ) × (i < j) × (j < length xs) × (get_or xs i 0 ≡ get_or xs j 0)
unfolding no_repeat
repeat_found [] e = absurd (true≢false e)
repeat_found (x ∷ xs) e = elim (and_cases (not (list_any (eqb x) xs)) _ e) [
  | inl again ↦
      let w = contains_from_member xs x (not-false (list_any (eqb x) xs) again) in
      (0, suc w.0, omega arith, omega (arith, w.1), sym w.2 ∙ get_or_default xs w.0 x 0 w.1)
  | inr later ↦ let w = repeat_found xs later in (suc w.0, suc w.1, omega (arith, w.2), omega (arith, w.3), w.4)
]

pub repeat_shown : (xs : List ℕ) (i j : ℕ) → i < j → j < length xs → slice_index xs i ≡ slice_index xs j → false ≡ no_repeat xs
repeat_shown xs i j low within same = sym (false_from_ne_true _ (λ on. different_from_no_repeat xs on i j low within same))

-- the numbers of a house, one by one
pub len_of : (p : Solo) (g : List ℕ) (house : NamedHouse) → IsSolo p → IsSoloHouse p house → length (numbers_of p g house) ≡ solo_n p
len_of p g house ok is = length-map (places_of p house) _ ∙ (lists_house ok house is).len

pub number_at : (p : Solo) (g : List ℕ) (house : NamedHouse) (k place number : ℕ) → IsSolo p → IsSoloHouse p house → k < solo_n p
    → place ≡ slice_index (places_of p house) k → number ≡ slice_index g place → number ≡ get_or (numbers_of p g house) k 0
number_at p g house k place number ok is lt at read =
    let len = (lists_house ok house is).len in
    read ∙ ap (slice_index g) at ∙ sym (get_or-map _ (places_of p house) k 0 0 (omega arith))

-- the bits are the first k numbers, which differ
pub record HasSeen (xs : List ℕ) (k seen : ℕ) : Type 0 where
  pub shown : (v : ℕ) → has_bit seen v ≡ true → (i : ℕ) × (i < k) × (get_or xs i 0 ≡ v)
  pub noted : (i : ℕ) → i < k → has_bit seen (get_or xs i 0) ≡ true
  pub different : (i j : ℕ) → i < j → j < k → get_or xs i 0 ≡ get_or xs j 0 → ⊥

pub seen_none : (xs : List ℕ) → HasSeen xs 0 0
seen_none xs = grind (arith, common_steps, zero-bits)

module _ (xs : List ℕ) (k seen number : ℕ) (h : HasSeen xs k seen) (is : number ≡ get_or xs k 0) where
  pub seen_more : {new : ℕ} → has_bit seen number ≡ false → ((v : ℕ) → has_bit new v ≡ (has_bit seen v || eqb v number)) → HasSeen xs (k + 1) new
  seen_more off each = grind (arith, common_steps, nat_tests, or_cases, eqb-true)

  pub seen_again : k < length xs → has_bit seen number ≡ true → false ≡ no_repeat xs
  seen_again lt on = let w = h.shown number on in repeat_shown xs w.0 k w.1 lt (w.2 ∙ is)

pub seen_all : (xs : List ℕ) (k seen : ℕ) → HasSeen xs k seen → length xs ≤ k → true ≡ no_repeat xs
seen_all xs k seen h all = grind (arith, common_steps, no_repeat_from_different)

module _ (p : Solo) (ok : IsSolo p) (g : List ℕ) where
  -- a house that holds a number twice
  repeats_in : (house : NamedHouse) → IsSoloHouse p house → no_repeat (numbers_of p g house) ≡ false → Repeats p g house
  repeats_in house is e =
      let w = repeat_found (numbers_of p g house) e in
      let l = lists_house ok house is in
      let long = length-map (places_of p house) (slice_index g) in
      let len = l.len in
      let a = w.2 in
      let b = w.3 in
      let li : w.0 < solo_n p = omega arith in
      let lj : w.1 < solo_n p = omega arith in (
        slice_index (places_of p house) w.0,
        slice_index (places_of p house) w.1,
        l.within w.0 li,
        l.within w.1 lj,
        (λ same. let u = l.index_of w.0 li in let v = l.index_of w.1 lj in let z = ap l.index same in absurd (omega arith)),
        l.lies_at w.0 li,
        l.lies_at w.1 lj,
        sym (get_or-map (slice_index g) (places_of p house) w.0 0 0 (omega arith)) ∙ w.4 ∙ get_or-map (slice_index g) (places_of p house) w.1 0 0 (omega arith),
      )

  -- and one that does not
  none_repeats : (house : NamedHouse) → IsSoloHouse p house → no_repeat (numbers_of p g house) ≡ true → Repeats p g house → ⊥
  none_repeats house is holds (j, k, lj, lk, ne, a, b, same) = differ_in (lists_house ok house is) g holds j k lj lk ne a b same

  fault_is : (house : NamedHouse) → FailsSolo p g (fault_of house) ≡ Repeats p g house
  fault_is (Row y) = refl
  fault_is (Column i) = refl
  fault_is (Block b) = refl
  fault_is (Diagonal d) = refl

  fault_fails : (house : NamedHouse) → Repeats p g house → FailsSolo p g (fault_of house)
  fault_fails house again = rw fault_is again

  fault_holds : (house : NamedHouse) → (Repeats p g house → ⊥) → FailsSolo p g (fault_of house) → ⊥
  fault_holds house none fails = none (rw fault_is at fails)

  abbrev Holding : SoloFault → Type 0
  Holding test = Holds (FailsSolo p g) test

  -- what is so of each house is so of its test
  house_by : (P : SoloFault → Type 0)
      →
      ((h : ℕ) (d : NamedHouse) → h < length (houses_of p) → P (fault_of (get_or (houses_of p) h d))) → AllByRecursion P (house_tests p)
  house_by P each = recursion_from_All P (house_tests p) (All-map P fault_of (houses_of p) each)

  test_of_house : AllByRecursion Holding (house_tests p) → (h : ℕ) (d : NamedHouse) → h < length (houses_of p) → Holding (fault_of (get_or (houses_of p) h d))
  test_of_house none h d lt =
      subst Holding (get_or-map fault_of (houses_of p) h d (fault_of d) lt)
      (all_at Holding (fault_of d) (house_tests p) h none (rw length-map lt))

  abbrev givens : TestKind SoloFault
  givens = record { test = Given; count = solo_cells p; right = given_stands p g }

  made : AllByRecursion (IsKindMade (FailsSolo p g)) (givens ∷ [])
  made = grind (arith, common_steps, nat_tests, given_from_test)

  abbrev no_repeat_in : NamedHouse → Bool
  no_repeat_in house = no_repeat (numbers_of p g house)

  -- ---- what is found
  pub given_first : (place : ℕ) → place < solo_cells p → FailsSolo p g (Given place)
      → ((q : ℕ) → q < place → Holding (Given q))
      → IsFirstOf (FailsSolo p g) (given_tests p) (Some (Given place))
  given_first place lt failed before = first_front _ (each givens) [] _ (first_each _ givens place lt failed before)

  pub givens_stand : ((q : ℕ) → q < solo_cells p → Holding (Given q)) → IsFirstOf (FailsSolo p g) (given_tests p) None
  givens_stand held = none_held (FailsSolo p g) (givens ∷ []) (held, tt)

  pub house_first : (h : ℕ) (house : NamedHouse) → h < length (houses_of p) → house ≡ get_or (houses_of p) h house → no_repeat_in house ≡ false
      → ((i : ℕ) (d : NamedHouse) → i < h → no_repeat_in (get_or (houses_of p) i d) ≡ true) → IsFirstOf (FailsSolo p g) (house_tests p) (Some (fault_of house))
  house_first h house lt is broken before =
      let at : (i : ℕ) → i < length (houses_of p)
      → get_or (house_tests p) i (fault_of house) ≡ fault_of (get_or (houses_of p) i house) =
      λ i below. get_or-map fault_of (houses_of p) i house (fault_of house) below in
      let here : get_or (house_tests p) h (fault_of house) ≡ fault_of house = at h lt ∙ ap fault_of (sym is) in
      let failed = fault_fails house (repeats_in house (rw (sym is) at (all_houses p h house lt)) broken) in
      subst (IsFirstFailed (FailsSolo p g) (house_tests p)) here
      (first_at (FailsSolo p g) (house_tests p) h (fault_of house) (rw length-map lt) (subst (FailsSolo p g) (sym here) failed)
      (λ i low fails. fault_holds (get_or (houses_of p) i house)
      (none_repeats (get_or (houses_of p) i house) (all_houses p i house (omega arith))
      (before i house low))
      (subst (FailsSolo p g) (at i (omega arith)) fails)))

  pub houses_differ : ((h : ℕ) (d : NamedHouse) → h < length (houses_of p)
      → no_repeat_in (get_or (houses_of p) h d) ≡ true)
      → IsFirstOf (FailsSolo p g) (house_tests p) None
  houses_differ fine =
      house_by Holding (λ h d lt. fault_holds _ (none_repeats _ (all_houses p h d lt) (fine h d lt)))

  -- ---- the grids that no test fails are the solutions
  pub solo_sound : IsGrid (solo_cells p) (solo_n p) g → NoneFails (FailsSolo p g) (given_tests p ++ house_tests p) → IsSoloSolution p g
  solo_sound grid none =
      let both = all_split Holding (given_tests p) (house_tests p) none in
      record {
        grid = grid;
        givens = λ place lt. given_from_test p g place ((right_none (FailsSolo p g) (givens ∷ []) made both.0).0 place lt);
        different =
            λ house is j k lj lk ne a b same. each_house p (λ h. Holding (fault_of h))
            (test_of_house both.1) house is (fault_fails house (j, k, lj, lk, ne, a, b, same));
      }

  pub solo_none : IsSoloSolution p g → NoneFails (FailsSolo p g) (given_tests p ++ house_tests p)
  solo_none s = AllByRecursion-append Holding (given_tests p) (house_tests p) (givens_stand (λ place lt (some, other). other (s.givens place lt some)))
      (house_by Holding (λ h d lt. fault_holds (get_or (houses_of p) h d)
      (λ (j, k, lj, lk, ne, a, b, same). s.different (get_or (houses_of p) h d)
      (all_houses p h d lt) j k lj lk ne a b same)))

  pub solo_known : AllByRecursion (IsKnown (FailsSolo p g)) (given_tests p ++ house_tests p)
  solo_known = AllByRecursion-append _ (given_tests p) (house_tests p) (known_tests (FailsSolo p g) (givens ∷ []) made)
      (house_by (IsKnown (FailsSolo p g)) (λ h d lt. by (get_or (houses_of p) h d) (all_houses p h d lt) (no_repeat_in (get_or (houses_of p) h d)) refl))
    where
      by : (house : NamedHouse) → IsSoloHouse p house → (b : Bool) → no_repeat_in house ≡ b → IsKnown (FailsSolo p g) (fault_of house)
      by house is true on = inr (fault_holds house (none_repeats house is on))
      by house is false off = inl (fault_fails house (repeats_in house is off))

  -- the first given that fails, or else the first house
  pub broken_first : (fault : SoloFault) → IsFirstOf (FailsSolo p g) (given_tests p) (Some fault) → IsSoloFault p g (Some fault)
  broken_first fault first = first_front _ _ _ fault first

  pub house_after : IsGrid (solo_cells p) (solo_n p) g
      → IsFirstOf (FailsSolo p g) (given_tests p) None → (fault : Option SoloFault)
      → IsFirstOf (FailsSolo p g) (house_tests p) fault
      → IsSoloFault p g fault
  house_after grid stand None none = solo_sound grid (AllByRecursion-append Holding (given_tests p) (house_tests p) stand none)
  house_after grid stand (Some fault) first = first_rest (FailsSolo p g) (given_tests p) (house_tests p) fault stand first

  pub solo_tells : IsGrid (solo_cells p) (solo_n p) g → (fault : Option SoloFault) (told : Bool)
      → IsSoloFault p g fault → is_some fault ≡ not told → told ≡ is_solo_solution p g
  solo_tells grid fault told is e =
      none_tells _ _ solo_none told _ (rule_from_test p ok g grid) (test_from_rule p ok g) fault is e

-- one house more that repeats nothing
pub fine_more : (p : Solo) (g : List ℕ) (k : ℕ) (house : NamedHouse) → k < length (houses_of p)
    → house ≡ get_or (houses_of p) k house → no_repeat (numbers_of p g house) ≡ true
    → ((h : ℕ) (d : NamedHouse) → h < k → no_repeat (numbers_of p g (get_or (houses_of p) h d)) ≡ true)
    → (h : ℕ) (d : NamedHouse) → h < k + 1 → no_repeat (numbers_of p g (get_or (houses_of p) h d)) ≡ true
fine_more p g k house lt is holds below h d lh = elim (cases_eq h k) [
  | inl e ↦ rw (e, get_or_default (houses_of p) k d house lt, ← is) holds
  | inr ne ↦ below h d (omega arith)
]
