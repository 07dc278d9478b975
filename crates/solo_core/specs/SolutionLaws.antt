-- Laws of lists without repeat, and of solutions: the test of a grid, house by house, is the rule.
use Rattle.std.proofs.lemmas.Grind.{common_steps}
use Rattle.std.proofs.Common.{Bool, Contains, List, [], ap, arith, eqb, false, get_or, inl, inr, length, map, not, refl, slice_index, suc, sym, true, true≢false, zero, ℕ, ◌&&◌, ◌+◌, ◌<◌, ◌∙◌, ◌∷◌, ◌≡◌, ◌≤◌}
use Rattle.solo_core.specs.Common.{AreDifferent, IsGrid, IsSoloHouse, IsSolo, IsSoloSolution, NamedHouse, Solo, all_below, all_below-at, all_below-from, and_from, and_parts, any_below, any_below-none, any_below-some, cases_Bool, cases_order, eq-eqb, eqb-true, get_or-map, get_or-map-range_with_len, get_or_default, given_stands, houses_of, is_solo_solution, length-map, length-map-range_with_len, list_all, list_any, nat_tests, no_repeat, not-true, numbers_of, range_with_len, solo_cells, solo_n}
use Rattle.grid_core.proofs.PairingLemmas.{apart-le, contains_from_member, member_from_contains}
use Rattle.engine_core.specs.PlaceLaws.{each_test, test_each}
use Rattle.solo_core.specs.HouseLaws.{Lists, all_houses, each_house, lists_house}

-- What a list without repeat is: its entries at different places differ.

-- entries at different places differ
pub different_from_no_repeat : (xs : List ℕ) → no_repeat xs ≡ true → (i j : ℕ) → i < j → j < length xs → get_or xs i 0 ≡ get_or xs j 0 → ⊥
unfolding no_repeat
different_from_no_repeat [] h i j below within same = absurd (omega arith)
different_from_no_repeat (x ∷ xs) h i zero below within same = absurd (omega arith)
different_from_no_repeat (x ∷ xs) h zero (suc j) below within same =
    let parts = and_parts (not (list_any (eqb x) xs)) _ h in
    let member = member_from_contains xs x (j, omega arith, get_or_default xs j x 0 (omega arith) ∙ sym same) in
    absurd (true≢false (sym member ∙ not-true (list_any (eqb x) xs) parts.0))
different_from_no_repeat (x ∷ xs) h (suc i) (suc j) below within same =
    different_from_no_repeat xs (and_parts (not (list_any (eqb x) xs)) _ h).1 i j (omega arith) (omega arith) same

pub own_from_no_repeat : (xs : List ℕ) → no_repeat xs ≡ true → AreDifferent xs
own_from_no_repeat xs h i j li lj same = grind (arith, common_steps, cases_order, different_from_no_repeat)

pub no_repeat_from_different : (xs : List ℕ) → ((i j : ℕ) → i < j → j < length xs → get_or xs i 0 ≡ get_or xs j 0 → ⊥) → no_repeat xs ≡ true
unfolding no_repeat
no_repeat_from_different [] differ = refl
no_repeat_from_different (x ∷ xs) differ =
    let rest = no_repeat_from_different xs (λ i j below within same. differ (suc i) (suc j) (omega arith) (omega arith) same) in
    rw rest (both (list_any (eqb x) xs) refl)
  where
    alone : Contains xs x → ⊥
    alone (k, inside, is) = differ 0 (suc k) (omega arith) (omega arith) (sym is ∙ get_or_default xs k x 0 inside)

    both : (b : Bool) → list_any (eqb x) xs ≡ b → (not b && true) ≡ true
    both false e = refl
    both true e = absurd (alone (contains_from_member xs x e))

-- n different numbers below n leave none out
pub none_missed : {n : ℕ} (h : ℕ → ℕ) → ((x : ℕ) → x < n → h x < n)
    → ((x y : ℕ) → x < n → y < n → h x ≡ h y → x ≡ y) → {v : ℕ} → v < n
    → ((x : ℕ) → x < n → h x ≡ v → ⊥) → ⊥
none_missed {n} h in_range own {v} v_in missed =
    let few = apart-le (v ∷ map h (range_with_len 0 n)) (suc n) n (omega (arith, length-map-range_with_len h 0 n)) (record { differ = differ }) below in
    absurd (omega arith)
  where
    at : (k : ℕ) → k < n → get_or (map h (range_with_len 0 n)) k 0 ≡ h k
    at k lt = get_or-map-range_with_len h 0 n k k 0 lt (omega arith)

    differ : (i j : ℕ) → i < j → j < suc n → get_or (v ∷ map h (range_with_len 0 n)) i 0 ≡ get_or (v ∷ map h (range_with_len 0 n)) j 0 → ⊥
    differ i zero low within same = absurd (omega arith)
    differ zero (suc j) low within same = missed j (omega arith) (sym (same ∙ at j (omega arith)))
    differ (suc i) (suc j) low within same = let e =
        own i j (omega arith) (omega arith)
        (sym (at i (omega arith)) ∙ same ∙ at j (omega arith)) in absurd (omega arith)

    below : (j : ℕ) → j < suc n → get_or (v ∷ map h (range_with_len 0 n)) j 0 < n
    below zero lt = v_in
    below (suc j) lt = rw (at j (omega arith)) (in_range j (omega arith))

pub none_missing : (n : ℕ) (f : List ℕ) → length f ≡ n → no_repeat f ≡ true
    → ((k : ℕ) → k < n → get_or f k 0 < n) → {w : ℕ} → w < n
    → (k : ℕ) × (k < n) × (get_or f k 0 ≡ w)
none_missing n f long holds small {w} lt = elim (cases_Bool (any_below (λ k. eqb (get_or f k 0) w) n)) [
  | inl on ↦ let k = any_below-some (λ k. eqb (get_or f k 0) w) n on in (k.0, k.1, eqb-true (get_or f k.0 0) w k.2)
  | inr off ↦ absurd (none_missed (λ k. get_or f k 0) small (λ x y lx ly same. own_from_no_repeat f holds x y (omega arith) (omega arith) same) lt
      (λ x lx e. true≢false (sym (eq-eqb (get_or f x 0) w e) ∙ any_below-none (λ k. eqb (get_or f k 0) w) n off x lx)))
]

-- Laws of solutions: the test of a grid, house by house, is the rule.

-- ---- a given stands
pub given_from_test : (p : Solo) (g : List ℕ) (place : ℕ) → given_stands p g place ≡ true
    → 1 ≤ slice_index p.givens place → slice_index g place + 1 ≡ slice_index p.givens place
given_from_test p g place on some = grind (arith, nat_tests)

pub test_from_given : (p : Solo) (g : List ℕ) (place : ℕ)
    → (1 ≤ slice_index p.givens place → slice_index g place + 1 ≡ slice_index p.givens place)
    → given_stands p g place ≡ true
test_from_given p g place stands = grind (arith, nat_tests)

-- ---- the numbers of a list of places
module _ {places : List ℕ} {n cells : ℕ} {lies : ℕ → Bool} (l : Lists places n cells lies) where
  -- the numbers at different places differ where the list of them has no repeat
  pub differ_in : (g : List ℕ) → no_repeat (map (slice_index g) places) ≡ true → (j k : ℕ) → j < cells → k < cells → (j ≡ k → ⊥)
      → lies j ≡ true → lies k ≡ true → slice_index g j ≡ slice_index g k → ⊥
  differ_in g holds j k lj lk ne on_j on_k same =
      let li = l.index_in j lj in
      let lm = l.index_in k lk in
      let long = length-map places (slice_index g) in
      let len = l.len in
      let e =
      own_from_no_repeat (map (slice_index g) places) holds (l.index j) (l.index k)
      (omega arith) (omega arith) (at j lj on_j ∙ same ∙ sym (at k lk on_k)) in
      ne (sym (l.covers j lj on_j) ∙ ap (slice_index places) e ∙ l.covers k lk on_k)
    where
      at : (c : ℕ) → c < cells → lies c ≡ true → get_or (map (slice_index g) places) (l.index c) 0 ≡ slice_index g c
      at c lc on =
          let inside = l.index_in c lc in
          let len = l.len in
          get_or-map (slice_index g) places (l.index c) 0 0 (omega arith) ∙ ap (slice_index g) (l.covers c lc on)

  pub no_repeat_in : (g : List ℕ) → ((j k : ℕ) → j < cells → k < cells → (j ≡ k → ⊥) → lies j ≡ true → lies k ≡ true → slice_index g j ≡ slice_index g k → ⊥)
      → no_repeat (map (slice_index g) places) ≡ true
  no_repeat_in g different = no_repeat_from_different (map (slice_index g) places) (λ i j low within same.
      let long = length-map places (slice_index g) in
      let len = l.len in
      let a = get_or-map (slice_index g) places i 0 0 (omega arith) in
      let b = get_or-map (slice_index g) places j 0 0 (omega arith) in
      different (slice_index places i) (slice_index places j) (l.within i (omega arith)) (l.within j (omega arith))
      (λ e. let ie = l.index_of i (omega arith) in let je = l.index_of j (omega arith) in let ee = ap l.index e in absurd (omega arith))
      (l.lies_at i (omega arith)) (l.lies_at j (omega arith)) (sym a ∙ same ∙ b))

-- ---- the test is the rule
pub rule_from_test : (p : Solo) → IsSolo p → (g : List ℕ) → IsGrid (solo_cells p) (solo_n p) g → is_solo_solution p g ≡ true → IsSoloSolution p g
unfolding is_solo_solution
rule_from_test p ok g grid on =
    let parts = and_parts (all_below (given_stands p g) (solo_cells p)) (list_all (λ house. no_repeat (numbers_of p g house)) (houses_of p)) on in
    record {
      grid = grid;
      givens = λ place lt. given_from_test p g place (all_below-at (given_stands p g) (solo_cells p) place parts.0 lt);
      different = λ house is. differ_in (lists_house ok house is) g
          (each_house p (λ h. no_repeat (numbers_of p g h) ≡ true) (test_each (λ h. no_repeat (numbers_of p g h)) (houses_of p) parts.1) house is);
    }

-- no house of a solution repeats a number
pub house_of_solution : (p : Solo) → IsSolo p → (g : List ℕ) → IsSoloSolution p g
    → (house : NamedHouse) → IsSoloHouse p house → no_repeat (numbers_of p g house) ≡ true
house_of_solution p ok g s house is = no_repeat_in (lists_house ok house is) g (s.different house is)

pub test_from_rule : (p : Solo) → IsSolo p → (g : List ℕ) → IsSoloSolution p g → is_solo_solution p g ≡ true
unfolding is_solo_solution
test_from_rule p ok g s = and_from _ _ (all_below-from (given_stands p g) (solo_cells p) (λ place lt. test_from_given p g place (s.givens place lt)))
    (each_test (λ house. no_repeat (numbers_of p g house)) (houses_of p)
    (λ k d lt. house_of_solution p ok g s (get_or (houses_of p) k d) (all_houses p k d lt)))
