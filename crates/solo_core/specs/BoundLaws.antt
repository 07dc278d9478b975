-- The bounds of closings as numbers: 3n + 3n^3 in plain Solo, with two houses more in Solo X, and with crossings what these add.
use Rattle.std.proofs.lemmas.Grind.{common_steps}
use Rattle.std.proofs.Common.{◌≡◌, ℕ, zero, suc, ◌+◌, ◌-◌, ◌*◌, ◌/◌, ◌%◌, ◌<◌, ◌≤◌, Bool, true, false, not, cond, eqb, List, [], ◌∷◌, map, length, get_or, if◌then◌else◌, refl, sym, ap, ◌∙◌, min, inl, inr, add-one, arith, length-append, All, sum_by}
use Rattle.solo_core.specs.Common.{range_with_len, filter, cases_order, eq-eqb, ne_eqb, nat_tests, div-mul-add, mod-mul-add, div_below, mod_below, mul-le, mul-add-lt, div-add-mod', length-map, map-append, All-map, length-map-range_with_len, filter_of_map_range_with_len_more, count_below, count_below-same, Solo, IsSolo, solo_n, has_place, strikes_by_fillings, Decision, visits_of, Row, Column, Block, solo_cells, block_of, houses_of, places_of, no_repeat}
use Rattle.std.proofs.lemmas.List.Sums.{sum_by-cons, sum_by-append}
use Rattle.solo_core.specs.Crossing.{crossing_places}
use Rattle.solo_core.specs.Meanings.{house_visits, crossing_visits, all_visits}
use Rattle.solo_core.specs.HouseLaws.{lists_house, listed-same, all_houses, each_value, row_in, column_in}
use Rattle.solo_core.specs.RuleSets.{deciding, filled_houses, house_by, visited_house, crossings_rules, crossings_of}
use Rattle.solo_core.specs.declared.houses.visit.VisitName.{VisitName}
use Rattle.solo_core.specs.Scopes.{row_scope, column_scope}

-- how many houses the puzzle has
pub house_count : (p : Solo) → length (houses_of p) ≡ 3 * solo_n p + (if p.x then 2 else 0)
house_count p = grind (arith, common_steps, length-append, length-map-range_with_len)

pub sum_same : {X : Type 0} (f : X → ℕ) (m : ℕ) (xs : List X) → All (λ y. f y ≡ m) xs → sum_by f xs ≡ length xs * m
sum_same f m [] all = omega arith
sum_same f m (y ∷ ys) all =
    omega (arith, sum_by-cons f y ys, all 0 y (omega arith), sum_same f m ys (λ k d lt. all (suc k) d (omega arith)))

-- one visit for each house, and one more for each number of each of its n cells
pub bound_is : (decides : Decision) (p : Solo) → IsSolo p
    → sum_by (visits_of (solo_n p)) (deciding decides p) ≡ house_visits p
bound_is decides p ok =
    let same = sum_same (visits_of (solo_n p)) (1 + solo_n p * solo_n p) (deciding decides p)
    (All-map (λ house. visits_of (solo_n p) house ≡ 1 + solo_n p * solo_n p) (house_by decides p) (houses_of p)
    (λ k d lt. ap (λ n. 1 + n * solo_n p) ((lists_house ok (get_or (houses_of p) k d) (all_houses p k d lt)).len))) in
    same ∙ rw (length-map (houses_of p) (house_by decides p)) (omega arith)

pub count_x : (p : Solo) → p.x ≡ true → length (houses_of p) ≡ 3 * solo_n p + 2
count_x p is = house_count p ∙ ap (λ b. 3 * solo_n p + (if b then 2 else 0)) is

pub count_plain : (p : Solo) → p.x ≡ false → length (houses_of p) ≡ 3 * solo_n p
count_plain p is = omega (arith, house_count p ∙ ap (λ b. 3 * solo_n p + (if b then 2 else 0)) is)

-- ---- counting
filter_count : (test : ℕ → Bool) (f : ℕ → ℕ) (n : ℕ) → length (filter test (map f (range_with_len 0 n))) ≡ count_below (λ k. test (f k)) n
unfolding count_below
filter_count test f zero = refl
filter_count test f (suc n) =
    ap length (rw add-one at (filter_of_map_range_with_len_more test f 0 n n (omega arith)))
    ∙ length-append (filter test (map f (range_with_len 0 n))) (cond (test (f n)) (f n ∷ []) [])
    ∙ rw (filter_count test f n) (grind arith)

-- of the first m numbers, in parts of r each, all but those of the q-th
count_other : (r q m : ℕ) → 0 < r → count_below (λ k. not (eqb (k / r) q)) m ≡ min m (q * r) + (m - (q * r + r))
unfolding count_below
count_other r q zero pos = omega arith
count_other r q (suc m) pos =
    let rest = count_other r q m pos in
    let whole = div-add-mod' m r in
    let low = mod_below m r pos in
    elim (cases_order (m / r) q) [
      | inl e ↦ let same = ap (λ z. z * r) e in rw (eq-eqb (m / r) q e) (omega arith)
      | inr (inl less) ↦ let most = mul-le (m / r + 1) r q r (omega arith) (omega arith) in rw (ne_eqb (m / r) q (λ e. omega arith)) (omega arith)
      | inr (inr more) ↦ let most = mul-le (q + 1) r (m / r) r (omega arith) (omega arith) in rw (ne_eqb (m / r) q (λ e. omega arith)) (omega arith)
    ]

same_test : (a b c d : ℕ) → (a ≡ b → c ≡ d) → (c ≡ d → a ≡ b) → eqb a b ≡ eqb c d
same_test a b c d there back = grind (arith, nat_tests)

-- ---- the cells of a line that are in a block
module _ (p : Solo) (ok : IsSolo p) (b : ℕ) (b_in : b < solo_n p) where
  abbrev block : List ℕ
  block = places_of p (Block b)

  -- where the q-th part of the line's r cells is the block's
  crossed : (f : ℕ → ℕ) (r q : ℕ) → 0 < r → q * r + r ≤ solo_n p
      → ((k : ℕ) → k < solo_n p → f k < solo_cells p)
      → ((k : ℕ) → k < solo_n p → eqb (block_of p (f k)) b ≡ eqb (k / r) q)
      → length (crossing_places block (map f (range_with_len 0 (solo_n p)))) ≡ solo_n p + (solo_n p - r)
  crossed f r q pos fits inside cut =
      let split = length-append block (filter (λ place. not (has_place block place)) (map f (range_with_len 0 (solo_n p)))) in
      let long = (lists_house ok (Block b) b_in).len in
      let count = filter_count (λ place. not (has_place block place)) f (solo_n p) in
      let tests = count_below-same (λ k. not (has_place block (f k))) (λ k. not (eqb (k / r) q)) (solo_n p)
      (λ k lt. ap not (sym (listed-same (lists_house ok (Block b) b_in) (inside k lt)) ∙ cut k lt)) in
      let few = count_other r q (solo_n p) pos in
      omega arith

  -- a block of the same band as the row has the row's cells of its own stack, and so with a column
  row_cells : (y : ℕ) → y < solo_n p → y / p.c ≡ b / p.c → length (crossing_places block (places_of p (Row y))) ≡ solo_n p + (solo_n p - p.r)
  row_cells y y_in same =
      let c_low = ok.c_low in
      let r_low = ok.r_low in
      let low = mod_below b p.c (omega arith) in
      let fits = mul-le (b % p.c + 1) p.r p.c p.r (omega arith) (omega arith) in
      let whole = div-add-mod' b p.c in
      crossed (λ x. y * solo_n p + x) p.r (b % p.c) (omega arith) (omega arith)
      (λ x lt. mul-add-lt y (solo_n p) x (solo_n p) y_in lt)
      (λ x lt. rw (div-mul-add y (solo_n p) x lt, mod-mul-add y (solo_n p) x lt, same)
      (same_test (b / p.c * p.c + x / p.r) b (x / p.r) (b % p.c) (λ z. omega arith) (λ z. omega arith)))

  column_cells : (x : ℕ) → x < solo_n p → x / p.r ≡ b % p.c → length (crossing_places block (places_of p (Column x))) ≡ solo_n p + (solo_n p - p.c)
  column_cells x x_in same =
      let c_low = ok.c_low in
      let low = mod_below b p.c (omega arith) in
      let high = div_below b p.c p.r (omega arith) (omega (arith, b_in)) in
      let fits = mul-le (b / p.c + 1) p.c p.r p.c (omega arith) (omega arith) in
      let whole = div-add-mod' b p.c in
      crossed (λ y. y * solo_n p + x) p.c (b / p.c) (omega arith) (omega arith)
      (λ y lt. mul-add-lt y (solo_n p) x (solo_n p) lt x_in)
      (λ y lt. rw (div-mul-add y (solo_n p) x x_in, mod-mul-add y (solo_n p) x x_in, same)
      (same_test (y / p.c * p.c + b % p.c) b (y / p.c) (b / p.c)
      (λ z. sym (div-mul-add (y / p.c) p.c (b % p.c) low) ∙ ap (λ k. k / p.c) z)
      (λ z. ap (λ k. k * p.c + b % p.c) z ∙ whole)))

-- ---- the bound with crossings
sum_alike : (p : Solo) (f : ℕ → VisitName) (k len : ℕ) → ((m : ℕ) → m < k → length (visited_house p (f m)).places ≡ len)
    → sum_by (visits_of (solo_n p)) (map (visited_house p) (map f (range_with_len 0 k))) ≡ k * (1 + len * solo_n p)
sum_alike p f k len each = sum_same (visits_of (solo_n p)) (1 + len * solo_n p) (map (visited_house p) (map f (range_with_len 0 k)))
    (All-map (λ house. visits_of (solo_n p) house ≡ 1 + len * solo_n p) (visited_house p) (map f (range_with_len 0 k))
    (each_value (λ scope. visits_of (solo_n p) (visited_house p scope) ≡ 1 + len * solo_n p) f k (λ m lt. ap (λ l. 1 + l * solo_n p) (each m lt))))
    ∙ ap (λ l. l * (1 + len * solo_n p)) (length-map (map f (range_with_len 0 k)) (visited_house p) ∙ length-map-range_with_len f 0 k)

pub crossings_bound : (p : Solo) → IsSolo p → sum_by (visits_of (solo_n p)) (crossings_of p) ≡ crossing_visits p
crossings_bound p ok =
    let c_low = ok.c_low in
    let r_low = ok.r_low in
    let rows = sum_alike p (row_scope p) (solo_n p * p.c) (solo_n p + (solo_n p - p.r)) (λ m lt. let w = row_in ok m lt in
    row_cells p ok (m / p.c) w.0 _ w.1 (div-mul-add (m / p.c / p.c) p.c (m % p.c) (mod_below m p.c (omega arith)))) in
    let columns = sum_alike p (column_scope p) (solo_n p * p.r) (solo_n p + (solo_n p - p.c)) (λ m lt. let w = column_in ok m lt in
    column_cells p ok (m / p.r) w.0 _ w.1 (div-mul-add (m / p.r % p.c) p.r (m % p.r) (mod_below m p.r (omega arith)))) in
    let r_in = mul-le 1 p.r p.c p.r (omega arith) (omega arith) in
    let c_in = mul-le p.c 1 p.c p.r (omega arith) (omega arith) in
    let e : solo_n p + (solo_n p - p.r) ≡ 2 * solo_n p - p.r = omega arith in
    let f : solo_n p + (solo_n p - p.c) ≡ 2 * solo_n p - p.c = omega arith in
    ap (sum_by (visits_of (solo_n p))) (map-append (visited_house p) (map (row_scope p) (range_with_len 0 (solo_n p * p.c))) _)
    ∙ sum_by-append (visits_of (solo_n p)) (map (visited_house p) (map (row_scope p) (range_with_len 0 (solo_n p * p.c)))) _
    ∙ rw (rows, columns, e, f) refl

pub crossings_rules-bound : (p : Solo) → IsSolo p → (crossings_rules p).bound ≡ all_visits p
crossings_rules-bound p ok =
    sum_by-append (visits_of (solo_n p)) (filled_houses p) (crossings_of p)
    ∙ rw (bound_is (strikes_by_fillings no_repeat) p ok, crossings_bound p ok) refl
