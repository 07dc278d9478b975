-- The squares of two rows of Tents, and visits of them.
use Rattle.fields_core.proofs.Common.{AllByRecursion, ArePlanesAlive, AreVisited, Bool, Candidates, CountHouse, Extent, IsFurther, IsHouse, IsTents, Layers, Row, Tents, [], and-false, and_from, and_parts, any_below, any_below-here, any_below-none, any_below-some, ap, arith, bit_of, cases_Bool, cases_lt, common_steps, count_by, covers, crosses, div-mul-add, eq-eqb, eqb, eqb-true, false, false≢true, fun_ext, planes_have, has_bit, has_place, houses_below, inl, inr, le-ltb, lies_in, lies_in_first, list_any, lt-ltb, ltb, ltb-true, mod-lt, mul-le-mul_right, not, not-false, not-true, one_at_most, or_cases, or_left, or_parts, or_right, place-column, refl, square_house, squares_of_row, suc, sym, tent_cells, true, two_rows, without_taking, without_value, zero, ℕ, ◌%◌, ◌&&◌, ◌*◌, ◌+◌, ◌-◌, ◌/◌, ◌<◌, ◌||◌, ◌∙◌, ◌∷◌, ◌≡◌, ◌≢◌, ◌≤◌, ◌⊎◌}
unfoldable use Rattle.fields_core.proofs.VisitLemmas.{is_met, without_met}
use Rattle.fields_core.proofs.CellLemmas.{cell-is, same-truth}
use Rattle.fields_core.proofs.PlaceLists.{count-cons}
use Rattle.fields_core.proofs.TentCounting.{square-is, square_places}
use Rattle.fields_core.proofs.HouseLemmas.{all-houses, any-houses}
use Rattle.fields_core.proofs.VisitLemmas.{IsBinaryAlive, IsOneAtMost, below-rows, visited-dies, visited-left, visited-none, visits-met, visits-two, zeros_of}
use Rattle.fields_core.proofs.PartLemmas.{struck-alive, value-in}

-- The squares of two rows of Tents, by words of the columns with a cell that has no 0.

-- ---- the cells of a square
-- whether the cell is in one of two rows, and in one of two columns
abbrev pub in_rows : ℕ → ℕ → ℕ → Bool
in_rows w y c = eqb (c / w) y || eqb (c / w) (y + 1)

abbrev pub in_columns : ℕ → ℕ → ℕ → Bool
in_columns w x c = eqb (c % w) x || eqb (c % w) (x + 1)

places-are : (w y x : ℕ) → square_places w (y * w + x)
    ≡ (y * w + x) ∷ (y * w + (x + 1)) ∷ ((y + 1) * w + x) ∷ ((y + 1) * w + (x + 1)) ∷ []
places-are w y x = grind (arith, common_steps)

pub square-has : {w : ℕ} (y x c : ℕ) → x + 1 < w → has_place (square_places w (y * w + x)) c ≡ (in_rows w y c && in_columns w x c)
unfolding has_place
square-has {w} y x c lt =
    ap (λ xs. has_place xs c) (places-are w y x)
    ∙ rw (cell-is w y x c (omega arith), cell-is w y (x + 1) c lt, cell-is w (y + 1) x c (omega arith), cell-is w (y + 1) (x + 1) c lt)
    (by (eqb (c / w) y) (eqb (c / w) (y + 1)) (eqb (c % w) x) (eqb (c % w) (x + 1)))
  where
    by : (a b i j : Bool) → ((a && i) || ((a && j) || ((b && i) || ((b && j) || false)))) ≡ ((a || b) && (i || j))
    by a b i j = grind (arith, common_steps, cases_Bool a, cases_Bool b, cases_Bool i, cases_Bool j)

-- whether a cell of the column in these two rows has no 0
abbrev pub must_in : (ℕ → Bool) → ℕ → ℕ → ℕ → Bool
must_in zeros w y u = not (zeros (y * w + u) && zeros ((y + 1) * w + u))

square-must : (zeros : ℕ → Bool) (w y x : ℕ) → list_any (λ d. not (zeros d)) (square_places w (y * w + x))
    ≡ (must_in zeros w y x || must_in zeros w y (x + 1))
square-must zeros w y x =
    ap (list_any (λ d. not (zeros d))) (places-are w y x)
    ∙ by (zeros (y * w + x)) (zeros (y * w + (x + 1))) (zeros ((y + 1) * w + x)) (zeros ((y + 1) * w + (x + 1)))
  where
    by : (a b d e : Bool) → (not a || (not b || (not d || (not e || false)))) ≡ (not (a && d) || not (b && e))
    by a b d e = grind (arith, common_steps, cases_Bool a, cases_Bool b, cases_Bool d, cases_Bool e)

pub square-few : (zeros : ℕ → Bool) (w y x : ℕ) → (zeros (y * w + x) || zeros ((y + 1) * w + x)) ≡ true
    → (zeros (y * w + (x + 1)) || zeros ((y + 1) * w + (x + 1))) ≡ true
    → (must_in zeros w y x && must_in zeros w y (x + 1)) ≡ false
    → count_by (λ d. not (zeros d)) (square_places w (y * w + x)) ≤ 1
square-few zeros w y x first next apart = grind (arith, common_steps, places-are, count-cons, cases_Bool)

-- ---- the houses of two rows
module _ (p : Tents) (y : ℕ) (lawful : IsTents p) (low : y + 1 < p.size.h) where
  abbrev w : ℕ
  w = p.size.w

  there : (x : ℕ) → x + 1 < w → square_house p (y * w + x) ≡ one_at_most (square_places w (y * w + x)) ∷ []
  there x lt = rw (place-column w y x (omega arith), div-mul-add y w x (omega arith), lt-ltb _ _ lt, lt-ltb _ _ low) refl

  beyond : (x : ℕ) → x < w → w ≤ x + 1 → square_house p (y * w + x) ≡ []
  beyond x lt high = rw (place-column w y x lt, le-ltb _ _ high) refl

  -- the house of each square
  pub each-square : (P : CountHouse → Type 0) → ((x : ℕ) → x + 1 < w → P (one_at_most (square_places w (y * w + x)))) → AllByRecursion P (squares_of_row p y)
  each-square P is = all-houses P (λ x. square_house p (y * w + x)) w (λ x lt. one x lt (cases_lt (x + 1) w))
    where
      one : (x : ℕ) → x < w → (x + 1 < w) ⊎ (w ≤ x + 1) → AllByRecursion P (square_house p (y * w + x))
      one x lt (inl wide) = rw (there x wide) (is x wide, tt)
      one x lt (inr high) = rw (beyond x lt high) tt

  pub house-is : (x : ℕ) → x + 1 < w → IsHouse (tent_cells p) (one_at_most (square_places w (y * w + x)))
  house-is x lt =
      let row : (y * w + x) / w ≡ y = div-mul-add y w x (omega arith) in
      let column : (y * w + x) % w ≡ x = place-column w y x (omega arith) in
      square-is p lawful (let e : (y + 1) * w ≤ p.size.h * w = mul-le-mul_right w (omega arith) in omega arith)
      (rw column lt) (rw row low)

  -- a test of some square
  pub some-square : (test : CountHouse → Bool) (x : ℕ) → x + 1 < w → test (one_at_most (square_places w (y * w + x))) ≡ true
      → list_any test (squares_of_row p y) ≡ true
  some-square test x lt on =
      any-houses test (λ k. square_house p (y * w + k)) w
      ∙ any_below-here (λ k. list_any test (square_house p (y * w + k))) w x (omega arith) (rw (there x lt) (or_left _ _ on))

  square-some : (test : CountHouse → Bool) → list_any test (squares_of_row p y) ≡ true
      → (x : ℕ) × (x + 1 < w) × (test (one_at_most (square_places w (y * w + x))) ≡ true)
  square-some test on =
      let k = any_below-some (λ k. list_any test (square_house p (y * w + k))) w (sym (any-houses test (λ k. square_house p (y * w + k)) w) ∙ on) in
      by k.0 k.1 k.2 (cases_lt (k.0 + 1) w)
    where
      by : (x : ℕ) → x < w → list_any test (square_house p (y * w + x)) ≡ true → (x + 1 < w) ⊎ (w ≤ x + 1)
          → (x : ℕ) × (x + 1 < w) × (test (one_at_most (square_places w (y * w + x))) ≡ true)
      by x lt some (inl wide) = (x, wide, one (test (one_at_most (square_places w (y * w + x)))) (rw (there x wide) at some))
        where
          one : (b : Bool) → (b || false) ≡ true → b ≡ true
          one b e = grind (arith, common_steps, cases_Bool b)
      by x lt some (inr high) = absurd (false≢true (rw (beyond x lt high) at some))

  -- ---- the columns near those in which a cell must be a one
  module _ (zeros : ℕ → Bool) (must near : ℕ → Bool) (wide : 1 < w)
      (must_is : (u : ℕ) → must u ≡ (ltb u w && must_in zeros w y u))
      (near_is : (u : ℕ) → u < w → near u ≡ ((must u || (ltb 0 u && must (u - 1))) || must (u + 1))) where
    inside : (u : ℕ) → must u ≡ true → (u < w) × (must_in zeros w y u ≡ true)
    inside u on = let parts = and_parts _ _ (sym (must_is u) ∙ on) in (ltb-true _ _ parts.0, parts.1)

    outside : (u : ℕ) → u < w → must_in zeros w y u ≡ true → must u ≡ true
    outside u lt on = must_is u ∙ and_from _ _ (lt-ltb _ _ lt) on

    -- a square of a column near one
    near-square : (c : ℕ) → c % w < w → near (c % w) ≡ true
        → (x : ℕ) × (x + 1 < w) × (in_columns w x c ≡ true) × ((must_in zeros w y x || must_in zeros w y (x + 1)) ≡ true)
    near-square c lt on = elim (or_cases _ _ (sym (near_is (c % w) lt) ∙ on)) [
      | inl here ↦ elim (or_cases _ _ here) [
        | inl own ↦ elim (cases_lt (c % w + 1) w) [
          | inl less ↦ (c % w, less, or_left _ _ (eq-eqb (c % w) (c % w) refl), or_left (must_in zeros w y (c % w)) (must_in zeros w y (c % w + 1)) (inside (c % w) own).1)
          | inr high ↦ let e : c % w - 1 + 1 ≡ c % w = omega arith in
              (c % w - 1, omega arith, or_right (eqb (c % w) (c % w - 1)) (eqb (c % w) (c % w - 1 + 1)) (eq-eqb (c % w) (c % w - 1 + 1) (sym e)), or_right (must_in zeros w y (c % w - 1)) (must_in zeros w y (c % w - 1 + 1)) (rw e (inside (c % w) own).1))
        ]
        | inr before ↦
            let parts = and_parts _ _ before in let pos = ltb-true 0 (c % w) parts.0 in
            let e : c % w - 1 + 1 ≡ c % w = omega arith in
            (c % w - 1, omega arith, or_right _ _ (eq-eqb (c % w) (c % w - 1 + 1) (sym e)), or_left _ _ (inside (c % w - 1) parts.1).1)
      ]
      | inr after ↦ let i = inside (c % w + 1) after in (c % w, i.0, or_left _ _ (eq-eqb (c % w) (c % w) refl), or_right _ _ i.1)
    ]

    square-near : (c x : ℕ) → c % w < w → x + 1 < w → in_columns w x c ≡ true → (must_in zeros w y x || must_in zeros w y (x + 1)) ≡ true
        → near (c % w) ≡ true
    square-near c x lt less at on = near_is (c % w) lt ∙ by (or_cases _ _ at) (or_cases _ _ on)
      where
        by : (eqb (c % w) x ≡ true) ⊎ (eqb (c % w) (x + 1) ≡ true) → (must_in zeros w y x ≡ true) ⊎ (must_in zeros w y (x + 1) ≡ true)
            → ((must (c % w) || (ltb 0 (c % w) && must (c % w - 1))) || must (c % w + 1)) ≡ true
        by (inl here) (inl first) = rw (eqb-true _ _ here, outside x (omega arith) first) refl
        by (inl here) (inr next) = rw (eqb-true _ _ here) (or_right _ _ (outside (x + 1) less next))
        by (inr here) (inl first) = let e : x + 1 - 1 ≡ x = omega arith in
            rw (eqb-true _ _ here, e, lt-ltb 0 (x + 1) (omega arith), outside x (omega arith) first) (or_left _ _ (or_right _ _ refl))
        by (inr here) (inr next) = rw (eqb-true _ _ here, outside (x + 1) less next) refl

    pub near-met : (c : ℕ) → (in_rows w y c && near (c % w)) ≡ list_any (λ house. is_met zeros house c) (squares_of_row p y)
    unfolding is_met
    near-met c =
        let lt : c % w < w = mod-lt c (omega arith) in
        same-truth _ _
        (λ on.
        let parts = and_parts _ _ on in let x = near-square c lt parts.1 in
        some-square (λ house. has_place house.places c && list_any (λ d. not (zeros d)) house.places) x.0 x.1
        (and_from _ _ (square-has y x.0 c x.1 ∙ and_from _ _ parts.0 x.2) (square-must zeros w y x.0 ∙ x.3)))
        (λ on.
        let x = square-some (λ house. has_place house.places c && list_any (λ d. not (zeros d)) house.places) on in
        let parts = and_parts _ _ x.2 in let at = and_parts _ _ (sym (square-has y x.0 c x.1) ∙ parts.0) in
        and_from _ _ at.0 (square-near c x.0 lt x.1 at.1 (sym (square-must zeros w y x.0) ∙ parts.1)))

-- Visits of the squares of two rows of Tents.

-- ---- visits of the squares of two rows
pub zero-at : (q : Layers) (y : ℕ) {u : ℕ} {w : ℕ} → q.size.w ≡ w → u < w → planes_have q (y * w + u) 0 ≡ bit_of q.rows y 0 u
unfolding planes_have
zero-at q y {u} same lt = rw (same, div-mul-add y _ u lt, place-column _ y u lt) refl

lies-two : (w y near c : ℕ) → lies_in_first w (two_rows y near) 2 c ≡ (in_rows w y c && has_bit near (c % w))
unfolding lies_in_first any_below lies_in crosses
lies-two w y near c = by (eqb (c / w) y) (eqb (c / w) (y + 1)) (has_bit near (c % w))
  where
    by : (a b n : Bool) → ((false || (a && n)) || (b && n)) ≡ ((a || b) && n)
    by a b n = grind (arith, common_steps, cases_Bool a, cases_Bool b, cases_Bool n)

zero-here : (q : Layers) (c : ℕ) → planes_have q c 0 ≡ bit_of q.rows (c / q.size.w) 0 (c % q.size.w)
unfolding planes_have
zero-here q c = refl

-- ones taken from the cells of two rows at these places that have 0
pub rows-struck : (from : Layers) {middle last : Candidates} (y near upper lower : ℕ) {width : ℕ} → width ≡ from.size.w
    → ((u : ℕ) → has_bit upper u ≡ (has_bit near u && bit_of from.rows y 0 u))
    → ((u : ℕ) → has_bit lower u ≡ (has_bit near u && bit_of from.rows (y + 1) 0 u))
    → middle ≡ without_taking from.size.w (planes_have from) (record { line = Row y; value = 1; bits = upper })
    → last ≡ without_taking width middle (record { line = Row (y + 1); value = 1; bits = lower })
    → last ≡ without_value from.size.w (two_rows y near) 2 1 (planes_have from)
unfolding without_taking covers crosses without_value
rows-struck from y near upper lower same upper_is lower_is first second = second ∙ fun_ext λ c. fun_ext λ v.
    let w = from.size.w in
    rw (same, first, lies-two w y near c, zero-here from c)
    (by (planes_have from c v) (eqb v 1) (eqb (c / w) y) (eqb (c / w) (y + 1)) (has_bit near (c % w)) (bit_of from.rows (c / w) 0 (c % w)) (has_bit upper (c % w)) (has_bit lower (c % w))
    (λ on. upper_is (c % w) ∙ rw (eqb-true _ _ on) refl)
    (λ on. lower_is (c % w) ∙ rw (eqb-true _ _ on) refl))
  where
    by : (k z a b n o s t : Bool) → (a ≡ true → s ≡ (n && o)) → (b ≡ true → t ≡ (n && o))
        → ((k && not (z && (a && s))) && not (z && (b && t))) ≡ (k && not (z && (o && ((a || b) && n))))
    by k z a b n o s t e f = grind (arith, common_steps, cases_Bool k, cases_Bool z, cases_Bool a, cases_Bool b, cases_Bool n, cases_Bool o)

-- words of the columns in which both cells of two rows have no 0, and of those in which one has none
pub record AreMust (from : Layers) (w y room twice must : ℕ) : Type 0 where
  pub fits : w ≤ room
  pub twice_is : (u : ℕ) → has_bit twice u ≡ (ltb u w && not (bit_of from.rows y 0 u || bit_of from.rows (y + 1) 0 u))
  pub must_is : (u : ℕ) → has_bit must u ≡ (ltb u w && not (bit_of from.rows y 0 u && bit_of from.rows (y + 1) 0 u))

module _ (p : Tents) (y : ℕ) (from : Layers) (room twice must : ℕ) (lawful : IsTents p) (low : y + 1 < p.size.h)
    (wide : 1 < p.size.w) (size : from.size ≡ p.size) (alive : ArePlanesAlive from)
    (are : AreMust from p.size.w y room twice must) where
  abbrev width : ℕ
  width = p.size.w

  abbrev zeros : ℕ → Bool
  zeros = zeros_of (planes_have from)

  upper-at : {u : ℕ} → u < width → bit_of from.rows y 0 u ≡ zeros (y * width + u)
  upper-at {u} lt = sym (zero-at from y (ap (λ (s : Extent). s.w) size) lt)

  lower-at : {u : ℕ} → u < width → bit_of from.rows (y + 1) 0 u ≡ zeros ((y + 1) * width + u)
  lower-at {u} lt = sym (zero-at from (y + 1) (ap (λ (s : Extent). s.w) size) lt)

  must-at : (u : ℕ) → has_bit must u ≡ (ltb u width && must_in zeros width y u)
  must-at u = grind (arith, common_steps, cases_lt, upper-at, lower-at, le-ltb)

  twice-at : {u : ℕ} → u < width → has_bit twice u ≡ not (zeros (y * width + u) || zeros ((y + 1) * width + u))
  twice-at {u} lt = are.twice_is u ∙ rw (lt-ltb _ _ lt, upper-at lt, lower-at lt) refl

  -- two cells without 0 in a square
  two-die : (x d e : ℕ) → x + 1 < width → d ≢ e → in_rows width y d ≡ true → in_columns width x d ≡ true → in_rows width y e ≡ true
      → in_columns width x e ≡ true → zeros d ≡ false → zeros e ≡ false → AreVisited (squares_of_row p y) from from false
  two-die x d e lt ne row_d column_d row_e column_e off_d off_e =
      let in_d = square-has y x d lt ∙ and_from _ _ row_d column_d in
      let in_e = square-has y x e lt ∙ and_from _ _ row_e column_e in
      visited-dies d (rw size ((house-is p y lawful low x lt).within d in_d)) (λ v small.
      visits-two (tent_cells p) (squares_of_row p y) (planes_have from) d e v
      (each-square p y lawful low (λ house. IsHouse (tent_cells p) house × (house.most ≡ 1)) (λ k less. (house-is p y lawful low k less, refl)))
      ne (some-square p y lawful low (λ house. has_place house.places d && has_place house.places e) x lt (and_from _ _ in_d in_e))
      off_d off_e small) alive

  must-cell : (u : ℕ) → u < width → must_in zeros width y u ≡ true → (d : ℕ) × (in_rows width y d ≡ true) × (d % width ≡ u) × (zeros d ≡ false)
  must-cell u lt on = elim (cases_Bool (zeros (y * width + u))) [
    | inr off ↦ (y * width + u, or_left _ _ (eq-eqb _ _ (div-mul-add y width u lt)), place-column width y u lt, off)
    | inl has_zero ↦ (
      (y + 1) * width + u,
      or_right _ _ (eq-eqb _ _ (div-mul-add (y + 1) width u lt)),
      place-column width (y + 1) u lt,
      second (zeros (y * width + u)) (zeros ((y + 1) * width + u)) has_zero on,
    )
  ]
    where
      second : (a b : Bool) → a ≡ true → not (a && b) ≡ true → b ≡ false
      second a b e f = grind (arith, common_steps, cases_Bool a, cases_Bool b)

  -- a square of a column
  column-in : {u : ℕ} → u < width → (x : ℕ) × (x + 1 < width) × ((d : ℕ) → d % width ≡ u → in_columns width x d ≡ true)
  column-in {u} lt = elim (cases_lt (u + 1) width) [
    | inl less ↦ (u, less, λ d e. or_left _ _ (eq-eqb _ _ e))
    | inr high ↦ let b : u - 1 + 1 ≡ u = omega arith in
        (u - 1, omega arith, λ d e. or_right _ _ (eq-eqb _ _ (e ∙ sym b)))
  ]

  pub twice-die : any_below (has_bit twice) room ≡ true → AreVisited (squares_of_row p y) from from false
  twice-die some =
      let u = any_below-some (has_bit twice) room some in
      let parts = and_parts _ _ (sym (are.twice_is u.0) ∙ u.2) in let lt = ltb-true _ _ parts.0 in
      let none = or_parts _ _ (not-true _ (sym (twice-at lt) ∙ u.2)) in let x = column-in lt in
      let first = place-column width y u.0 lt in let second = place-column width (y + 1) u.0 lt in
      two-die x.0 (y * width + u.0) ((y + 1) * width + u.0) x.1 (λ e. absurd (omega arith))
      (or_left _ _ (eq-eqb _ _ (div-mul-add y width u.0 lt))) (x.2 (y * width + u.0) first)
      (or_right _ _ (eq-eqb _ _ (div-mul-add (y + 1) width u.0 lt))) (x.2 ((y + 1) * width + u.0) second)
      none.0 none.1

  pub beside-die : (pairs : ℕ) → ((u : ℕ) → has_bit pairs u ≡ (has_bit must u && (ltb u room && (ltb 0 u && has_bit must (u - 1)))))
      → any_below (has_bit pairs) room ≡ true → AreVisited (squares_of_row p y) from from false
  beside-die pairs is some =
      let u = any_below-some (has_bit pairs) room some in let parts = and_parts _ _ (sym (is u.0) ∙ u.2) in
      let rest = and_parts _ _ (and_parts _ _ parts.1).1 in let pos = ltb-true 0 u.0 rest.0 in
      let own = and_parts _ _ (sym (must-at u.0) ∙ parts.0) in let before = and_parts _ _ (sym (must-at (u.0 - 1)) ∙ rest.1) in
      let lt = ltb-true u.0 width own.0 in let d = must-cell u.0 lt own.1 in
      let e = must-cell (u.0 - 1) (omega arith) before.1 in let b : u.0 - 1 + 1 ≡ u.0 = omega arith in
      two-die (u.0 - 1) d.0 e.0 (omega arith) (λ same. absurd (apart d.0 e.0 same d.2 e.2 pos)) d.1
      (or_right _ _ (eq-eqb (d.0 % width) (u.0 - 1 + 1) (d.2 ∙ sym b)))
      e.1 (or_left _ _ (eq-eqb (e.0 % width) (u.0 - 1) e.2)) d.3 e.3
    where
      apart : (d e : ℕ) → d ≡ e → {u : ℕ} → d % width ≡ u → e % width ≡ u - 1 → 0 < u → ⊥
      apart d e same {u} first second pos = let f : u ≡ u - 1 = sym first ∙ ap (λ n. n % width) same ∙ second in omega arith

  -- no two: then what is near is taken
  pub squares-met : (pairs near : ℕ) {to : Layers} → any_below (has_bit twice) room ≡ false
      → ((u : ℕ) → has_bit pairs u ≡ (has_bit must u && (ltb u room && (ltb 0 u && has_bit must (u - 1)))))
      → any_below (has_bit pairs) room ≡ false
      → ((u : ℕ) → has_bit near u ≡ ((has_bit must u || (ltb u room && (ltb 0 u && has_bit must (u - 1)))) || has_bit must (u + 1)))
      → planes_have to ≡ without_value from.size.w (two_rows y near) 2 1 (planes_have from) → IsFurther from to
      → AreVisited (squares_of_row p y) from to true
  unfolding without_value without_met
  squares-met pairs near {to} once is apart near_is left further =
      visited-left (met ∙ sym (visits-met (squares_of_row p y) (planes_have from) full each))
      (struck-alive from to (two_rows y near) 2 1 further.same_size (omega arith) alive left) further
    where
      full : IsBinaryAlive (tent_cells p) (planes_have from)
      full = record { low = value-in from; some = λ c lt. alive c (rw size lt) }

      once-at : (u : ℕ) → u < width → (zeros (y * width + u) || zeros ((y + 1) * width + u)) ≡ true
      once-at u lt = not-false _ (sym (twice-at lt) ∙ any_below-none (has_bit twice) room once u (omega (arith, are.fits)))

      apart-at : (x : ℕ) → x + 1 < width → (must_in zeros width y x && must_in zeros width y (x + 1)) ≡ false
      apart-at x lt =
          let e : x + 1 - 1 ≡ x = omega arith in
          let own : has_bit must (x + 1) ≡ must_in zeros width y (x + 1) = must-at (x + 1) ∙ rw (lt-ltb _ _ lt) refl in
          let before : has_bit must (x + 1 - 1) ≡ must_in zeros width y x = rw e (must-at x ∙ rw (lt-ltb x width (omega arith)) refl) in
          by (sym (is (x + 1)) ∙ any_below-none (has_bit pairs) room apart (x + 1) (omega (arith, are.fits)))
          (lt-ltb (x + 1) room (omega (arith, are.fits))) (lt-ltb 0 (x + 1) (omega arith)) own before
        where
          by : {a b f g i j : Bool} → (a && (b && (f && g))) ≡ false → b ≡ true → f ≡ true → a ≡ i → g ≡ j → (j && i) ≡ false
          by {a} {b} {f} {g} e k l m n = grind (arith, common_steps, cases_Bool a, cases_Bool g)

      each : AllByRecursion (IsOneAtMost (tent_cells p) zeros) (squares_of_row p y)
      each = each-square p y lawful low (IsOneAtMost (tent_cells p) zeros) (λ x lt. record {
        is = house-is p y lawful low x lt;
        least_is = refl;
        most_is = refl;
        few = square-few zeros width y x (once-at x (omega arith)) (once-at (x + 1) lt) (apart-at x lt);
      })

      hits : (c : ℕ) → lies_in_first from.size.w (two_rows y near) 2 c ≡ list_any (λ house. is_met zeros house c) (squares_of_row p y)
      hits c = ap (λ (n : ℕ). lies_in_first n (two_rows y near) 2 c) (ap (λ (s : Extent). s.w) size)
          ∙ (lies-two width y near c ∙ near-met p y lawful low zeros (has_bit must) (has_bit near) wide must-at
          (λ u lt. near_is u ∙ rw (lt-ltb u room (omega (arith, are.fits))) refl) c)

      met : planes_have to ≡ without_met (squares_of_row p y) (planes_have from)
      met = left ∙ fun_ext λ c. fun_ext λ v. ap (λ b. planes_have from c v && not (eqb v 1 && (planes_have from c 0 && b))) (hits c)

-- ---- where there is no square
pub none-below : (p : Tents) (y : ℕ) (from : Layers) → 0 < p.size.w → (p.size.w < 2) ⊎ (p.size.h ≤ y + 1) → ArePlanesAlive from
    → AreVisited (squares_of_row p y) from from true
unfolding houses_below
none-below p y from pos small alive = rw (empty p.size.w (λ k lt. none k lt small)) (visited-none alive)
  where
    none : (x : ℕ) → x < p.size.w → (p.size.w < 2) ⊎ (p.size.h ≤ y + 1) → square_house p (y * p.size.w + x) ≡ []
    none x lt (inl narrow) = rw (place-column p.size.w y x lt, le-ltb (x + 1) p.size.w (omega arith)) refl
    none x lt (inr last) = rw (div-mul-add y p.size.w x lt, le-ltb _ _ last, and-false (ltb ((y * p.size.w + x) % p.size.w + 1) p.size.w)) refl

    empty : (n : ℕ) → ((k : ℕ) → k < n → square_house p (y * p.size.w + k) ≡ []) → houses_below (λ x. square_house p (y * p.size.w + x)) n ≡ []
    empty zero off = refl
    empty (suc n) off = rw (empty n (λ k lt. off k (omega arith)), off n (omega arith)) refl

-- ---- the squares of all rows
pub squares-are : (p : Tents) → houses_below (squares_of_row p) p.size.h ≡ houses_below (square_house p) (tent_cells p)
squares-are p = below-rows (square_house p) p.size.w p.size.h
    ∙ ap (houses_below (square_house p)) (let e : p.size.h * p.size.w ≡ p.size.w * p.size.h = omega arith in e)
