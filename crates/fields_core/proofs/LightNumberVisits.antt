-- Visits of the numbers of Light Up on planes.
use Rattle.fields_core.proofs.Common.{ArePieces, ArePlanesAlive, AreVisited, Black, Bool, Column, Extent, IsBroken, IsColumnOf, IsFurther, IsHouse, IsHouseOfPieces, IsLight, Layers, Light, List, Numbered, Piece, Row, [], after_house, after_visits, and-false, and_from, and_parts, any_below, any_below-none, any_below-some, arith, beside, cases_Bool, cases_eq, cases_lt, common_steps, crosses, div-mul-add, eq-eqb, eqb, eqb-true, exactly, false, filter, fun_ext, further-none, get_or, get_or-set_other, get_or-set_same, planes_have, has_bit, has_place, inl, inr, le-ltb, length, length-map, lies_in, lies_in_first, light_cells, light_houses, ltb, ltb-true, map, map-set, ne_eqb, not, number_house, or_cases, or_left, or_parts, or_right, place-column, place-in, refl, set, slice_index, subst, sym, true, white, ℕ, ◌%◌, ◌&&◌, ◌*◌, ◌+◌, ◌-◌, ◌/◌, ◌<◌, ◌||◌, ◌∙◌, ◌∷◌, ◌≡◌, ◌≤◌}
use Rattle.fields_core.proofs.VisitLemmas.{among-below, among-front, among-house, among-one, others-stay, visited-dies, visited-left, visited-none}
use Rattle.fields_core.proofs.CellLemmas.{cell-is, same-truth}
use Rattle.fields_core.proofs.LightRuleLemmas.{light-counting}
use Rattle.fields_core.proofs.BesideLemmas.{whole-cell}
use Rattle.fields_core.proofs.PlaceLists.{filter-has}
use Rattle.fields_core.proofs.TentTreeWords.{beside-has}

-- ---- the house of a number is a house
pub number-is : {p : Light} {c n : ℕ} → IsLight p → c < light_cells p → get_or p.cells c Black ≡ Numbered n
    → IsHouse (light_cells p) (exactly n (filter (white p) (beside p.size c)))
unfolding light_houses
number-is {p} {c} {n} lawful lt e =
    among-house (light_cells p) (light-counting lawful).are_houses
    (among-front _ (among-below _ (number_house p) lt (rw e (among-one _))))

-- ---- a word for each column: one more is written
pub columns-more : {W : Type 0} (bits : W → ℕ) (words : List W) (n : ℕ) (size : Extent) (passes : ℕ → Bool) (word : W) → n < length words
    → ((x : ℕ) → x < n → IsColumnOf size passes x (slice_index (map bits words) x)) → IsColumnOf size passes n (bits word)
    → (x : ℕ) → x < n + 1 → IsColumnOf size passes x (slice_index (map bits (set words n word)) x)
columns-more bits words n size passes word lt written is x less y = grind (arith, common_steps, map-set, cases_eq, get_or-set_same, length-map, get_or-set_other)

-- ---- the cells beside a cell, by row and column
-- the number before one and the number after it
abbrev next_to : ℕ → ℕ → ℕ → Bool
next_to n a k = (ltb 0 a && eqb k (a - 1)) || (ltb (a + 1) n && eqb k (a + 1))

next-is : {n a : ℕ} (k : ℕ) → a < n → next_to n a k ≡ ((eqb k (a + 1) || eqb a (k + 1)) && ltb k n)
next-is {n} {a} k lt = grind (arith, common_steps, same-truth, and_from, or_right, or_left)

beside-cell : (size : Extent) (y : ℕ) {x : ℕ} (d : ℕ) → x < size.w → has_place (beside size (y * size.w + x)) d
    ≡ ((eqb (d / size.w) y && next_to size.w x (d % size.w)) || (eqb (d % size.w) x && next_to size.h y (d / size.w)))
beside-cell size y {x} d lt = grind (arith, common_steps, beside-has, cell-is, ltb, eqb, cases_lt, le-ltb, cases_Bool)

-- ---- the white cells beside a cell, as words of its row and of its column
abbrev pub both_pieces : ℕ → ℕ → ℕ → ℕ → List Piece
both_pieces y x row column = record { line = Row y; bits = row } ∷ record { line = Column x; bits = column } ∷ []

-- the word planes_have those of the numbers beside one that pass
abbrev pub IsBeside : ℕ → (ℕ → Bool) → ℕ → ℕ → Type 0
IsBeside n passes a bits = (k : ℕ) → has_bit bits k ≡ ((eqb k (a + 1) || eqb a (k + 1)) && (ltb k n && passes k))

pub beside-word : {n room : ℕ} (a both near word : ℕ) (passes : ℕ → Bool) → n ≤ room
    → ((k : ℕ) → has_bit both k ≡ (has_bit near k && has_bit word k))
    → ((k : ℕ) → k < room → has_bit near k ≡ (eqb k (a + 1) || eqb a (k + 1)))
    → ((k : ℕ) → has_bit word k ≡ (ltb k n && passes k)) → IsBeside n passes a both
beside-word {n} {room} a both near word passes fits both_is near_is word_is k = grind (arith, common_steps, cases_lt, le-ltb, and-false)

-- of a line those of the cells beside one that pass
part-is : {n a d : ℕ} (line at k bits : ℕ) (cell : ℕ → ℕ) (passes : ℕ → Bool) → a < n → IsBeside n (λ k. passes (cell k)) a bits → (line ≡ at → cell k ≡ d)
    → ((eqb line at && next_to n a k) && passes d) ≡ (eqb line at && has_bit bits k)
part-is {n} {a} {d} line at k bits cell passes lt is here = grind (arith, common_steps, cases_eq, eq-eqb, next-is, ne_eqb)

pub lies-both : (w y x row column d : ℕ) → lies_in_first w (both_pieces y x row column) 2 d
    ≡ ((eqb (d / w) y && has_bit row (d % w)) || (eqb (d % w) x && has_bit column (d / w)))
unfolding lies_in_first any_below lies_in crosses
lies-both w y x row column d = refl

-- the pieces have no cell together unless both have the cell where the lines cross
pub pieces-apart : (size : Extent) {y x : ℕ} (row column : ℕ) → y < size.h → x < size.w → (has_bit row x ≡ true → has_bit column y ≡ true → ⊥)
    → ArePieces size (both_pieces y x row column)
unfolding lies_in crosses
pieces-apart size {y} {x} row column y_in x_in off = grind (arith, common_steps, and_parts, eqb-true)

module _ (p : Light) (lawful : IsLight p) (y x row column : ℕ) (y_in : y < p.size.h) (x_in : x < p.size.w)
    (row_is : IsBeside p.size.w (λ k. white p (y * p.size.w + k)) x row) (column_is : IsBeside p.size.h (λ k. white p (k * p.size.w + x)) y column) where
  abbrev cell : ℕ
  cell = y * p.size.w + x

  abbrev pieces : List Piece
  pieces = both_pieces y x row column

  abbrev places : List ℕ
  places = filter (white p) (beside p.size cell)

  cell_in : cell < light_cells p
  cell_in = place-in p.size.w p.size.h y x y_in x_in

  row-part : (d : ℕ) → ((eqb (d / p.size.w) y && next_to p.size.w x (d % p.size.w)) && white p d) ≡ (eqb (d / p.size.w) y && has_bit row (d % p.size.w))
  row-part d = part-is (d / p.size.w) y (d % p.size.w) row (λ k. y * p.size.w + k) (white p) x_in row_is (λ same. rw (← same) (sym (whole-cell p.size.w d)))

  column-part : (d : ℕ) → ((eqb (d % p.size.w) x && next_to p.size.h y (d / p.size.w)) && white p d) ≡ (eqb (d % p.size.w) x && has_bit column (d / p.size.w))
  column-part d = part-is (d % p.size.w) x (d / p.size.w) column (λ k. k * p.size.w + x) (white p) y_in column_is (λ same. rw (← same) (sym (whole-cell p.size.w d)))

  places-are : (d : ℕ) → has_place places d ≡ lies_in_first p.size.w pieces 2 d
  places-are d = grind (arith, common_steps, filter-has, beside-cell, lies-both, row-part, column-part, cases_Bool)

  module _ (n : ℕ) (numbered : get_or p.cells cell Black ≡ Numbered n) (from : Layers) (size : from.size ≡ p.size) where
    house_is : IsHouse (light_cells p) (exactly n places)
    house_is = number-is lawful cell_in numbered

    pub number-house-of : IsHouseOfPieces from.size pieces n n (exactly n places)
    number-house-of = subst (λ (e : Extent). IsHouseOfPieces e pieces n n (exactly n places)) (sym size) (record { is = house_is; least_is = refl; most_is = refl; cells = places-are })

    pub number-filled : {to : Layers} → planes_have to ≡ after_house (exactly n places) (planes_have from) → ArePlanesAlive to → IsFurther from to
        → AreVisited (number_house p cell) from to true
    unfolding after_visits
    number-filled {to} left alive further = rw numbered (visited-left left alive further)

    -- a house that planes_have no filling, if it planes_have a cell
    pub number-short : {room : ℕ} (both : ℕ) {to : Layers} {any : Bool} → p.size.w ≤ room → p.size.h ≤ room
        → ((k : ℕ) → has_bit both k ≡ (has_bit row k || has_bit column k)) → any ≡ any_below (has_bit both) room
        → IsBroken (exactly n places) (planes_have from) → to ≡ from → ArePlanesAlive from → AreVisited (number_house p cell) from to (not any)
    unfolding after_visits
    number-short {room} both {to} {any} wide tall both_is any_is broken same alive = rw (same, numbered) (elim (cases_Bool any) [
      | inl on ↦
          let w = shown (any_below-some (has_bit both) room (sym any_is ∙ on)) in
          let there = places-are w.0 ∙ lies-both p.size.w y x row column w.0 ∙ w.1 in
          rw on (visited-dies w.0 (rw size (house_is.within w.0 there)) (λ v low. broken w.0 v there low) alive)
      | inr off ↦ rw off (visited-left
          (fun_ext λ c. fun_ext λ v. sym (others-stay (exactly n places) (planes_have from) c v (places-are c ∙ lies-both p.size.w y x row column c ∙ bare c (sym any_is ∙ off))))
          alive (further-none from))
    ])
      where
        shown : (k : ℕ) × (k < room) × (has_bit both k ≡ true) → (d : ℕ) × (((eqb (d / p.size.w) y && has_bit row (d % p.size.w)) || (eqb (d % p.size.w) x && has_bit column (d / p.size.w))) ≡ true)
        shown (k, lt, on) = elim (or_cases _ _ (sym (both_is k) ∙ on)) [
          | inl in_row ↦
              let less = ltb-true _ _ (and_parts _ _ (and_parts _ _ (sym (row_is k) ∙ in_row)).1).0 in
              (y * p.size.w + k, rw (div-mul-add y p.size.w k less, place-column p.size.w y k less) (or_left _ _ (and_from _ _ (eq-eqb y y refl) in_row)))
          | inr in_column ↦
              (k * p.size.w + x, rw (div-mul-add k p.size.w x x_in, place-column p.size.w k x x_in) (or_right _ _ (and_from _ _ (eq-eqb x x refl) in_column)))
        ]

        none-at : any_below (has_bit both) room ≡ false → (k : ℕ) → (has_bit row k ≡ false) × (has_bit column k ≡ false)
        none-at none k = elim (cases_lt k room) [
          | inl less ↦ or_parts _ _ (sym (both_is k) ∙ any_below-none (has_bit both) room none k less)
          | inr high ↦ (row_is k ∙ rw (le-ltb k p.size.w (omega arith)) (and-false _), column_is k ∙ rw (le-ltb k p.size.h (omega arith)) (and-false _))
        ]

        bare : (c : ℕ) → any_below (has_bit both) room ≡ false → ((eqb (c / p.size.w) y && has_bit row (c % p.size.w)) || (eqb (c % p.size.w) x && has_bit column (c / p.size.w))) ≡ false
        bare c none = rw ((none-at none (c % p.size.w)).0, (none-at none (c / p.size.w)).1, and-false (eqb (c / p.size.w) y), and-false (eqb (c % p.size.w) x)) refl

-- ---- a cell without a number
pub black-visited : (p : Light) (c : ℕ) {from : Layers} → get_or p.cells c Black ≡ Black → ArePlanesAlive from → AreVisited (number_house p c) from from true
black-visited p c e alive = rw e (visited-none alive)
