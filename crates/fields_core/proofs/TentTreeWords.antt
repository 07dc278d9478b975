-- Words of the cells of a row and of those beside them.
use Rattle.fields_core.proofs.Common.{Bool, Candidates, Extent, IsNear, IsRowIn, IsRowOf, Layers, List, None, Row, Some, Tents, and-false, and_from, and_parts, any_below-here, any_below-some, ap, arith, beside, bit_of, cases_Bool, cases_lt, common_steps, cond, count_by, covers, crosses, differ, div-add-mod', div-mul-add, eq-eqb, eqb, eqb-true, false, false_from_ne_true, fun_ext, planes_have, has_bit, has_place, if_there, inl, inr, is_barred, is_beside, le-ltb, lt-ltb, ltb, ltb-true, mod-lt, not, or_cases, or_left, or_right, place-column, refl, step, steps, suc, sum_by-append, sym, tree, true, wants_tent, without_taking, without_zeros, zero, ℕ, ◌%◌, ◌&&◌, ◌*◌, ◌++◌, ◌+◌, ◌-◌, ◌/◌, ◌<◌, ◌||◌, ◌∙◌, ◌≡◌, ◌≤◌}
use Rattle.fields_core.specs.declared.planes.tents.three_rows.ThreeRows.{ThreeRows}
use Rattle.fields_core.proofs.CellLemmas.{has-append, has-at, same-truth}
use Rattle.fields_core.proofs.PlaceLists.{num, some-counted}

-- ---- the cells beside a cell of a row
-- the cell, where it is there
abbrev cell_if : Bool → ℕ → List ℕ
cell_if there c = if_there (cond there (Some c) None)

up-at : (size : Extent) (y x : ℕ) → x < size.w → if_there (step size (y * size.w + x) 0) ≡ cell_if (ltb 0 y) ((y - 1) * size.w + x)
unfolding step
up-at size zero x lt = rw (div-mul-add 0 size.w x lt) refl
up-at size (suc y) x lt = grind (arith, common_steps, div-mul-add)

left-at : (size : Extent) (y x : ℕ) → x < size.w → if_there (step size (y * size.w + x) 1) ≡ cell_if (ltb 0 x) (y * size.w + (x - 1))
unfolding step
left-at size y zero lt = rw (place-column size.w y 0 lt) refl
left-at size y (suc x) lt = grind (arith, common_steps, place-column)

right-at : (size : Extent) (y x : ℕ) → x < size.w → if_there (step size (y * size.w + x) 2) ≡ cell_if (ltb (x + 1) size.w) (y * size.w + (x + 1))
unfolding step
right-at size y x lt = let e : y * size.w + x + 1 ≡ y * size.w + (x + 1) = omega arith in rw (place-column size.w y x lt, e) refl

down-at : (size : Extent) (y : ℕ) {x : ℕ} → x < size.w → if_there (step size (y * size.w + x) 3) ≡ cell_if (ltb (y + 1) size.h) ((y + 1) * size.w + x)
unfolding step
down-at size y {x} lt = grind (arith, common_steps, div-mul-add)

beside-is : (size : Extent) (y : ℕ) {x : ℕ} → x < size.w → beside size (y * size.w + x)
    ≡ ((cell_if (ltb 0 y) ((y - 1) * size.w + x) ++ cell_if (ltb 0 x) (y * size.w + (x - 1)))
    ++ cell_if (ltb (x + 1) size.w) (y * size.w + (x + 1))) ++ cell_if (ltb (y + 1) size.h) ((y + 1) * size.w + x)
unfolding steps
beside-is size y {x} lt = rw (up-at size y x lt, left-at size y x lt, right-at size y x lt, down-at size y lt) refl

count-if : (passes : ℕ → Bool) (there : Bool) (c : ℕ) → count_by passes (cell_if there c) ≡ num (there && passes c)
count-if passes true c = grind (arith, common_steps, cases_Bool (passes c))
count-if passes false c = refl

has-if : (there : Bool) (d c : ℕ) → has_place (cell_if there d) c ≡ (there && eqb d c)
unfolding has_place
has-if true d c = grind (arith, common_steps, cases_Bool (eqb d c))
has-if false d c = refl

count-append : (passes : ℕ → Bool) (xs ys : List ℕ) → count_by passes (xs ++ ys) ≡ count_by passes xs + count_by passes ys
count-append passes xs ys = sum_by-append (λ c. cond (passes c) 1 0) xs ys

beside-count : (size : Extent) (passes : ℕ → Bool) (y x : ℕ) → x < size.w → count_by passes (beside size (y * size.w + x))
    ≡ num (ltb 0 y && passes ((y - 1) * size.w + x)) + num (ltb 0 x && passes (y * size.w + (x - 1)))
    + num (ltb (x + 1) size.w && passes (y * size.w + (x + 1))) + num (ltb (y + 1) size.h && passes ((y + 1) * size.w + x))
beside-count size passes y x lt = grind (arith, common_steps, beside-is, count-append, count-if)

pub beside-has : (size : Extent) (y : ℕ) {x : ℕ} (c : ℕ) → x < size.w → has_place (beside size (y * size.w + x)) c
    ≡ (((ltb 0 y && eqb ((y - 1) * size.w + x) c) || (ltb 0 x && eqb (y * size.w + (x - 1)) c))
    || (ltb (x + 1) size.w && eqb (y * size.w + (x + 1)) c)) || (ltb (y + 1) size.h && eqb ((y + 1) * size.w + x) c)
beside-has size y {x} c lt = grind (arith, common_steps, beside-is, has-append, has-if)

-- ---- the words beside a place
module _ {W : Type 0} (bits : W → ℕ) (room : ℕ) (size : Extent) (passes : ℕ → Bool) (y x : ℕ) (near : ThreeRows W)
    (narrow : size.w ≤ room) (lt : x < size.w) (is : IsNear bits size passes y near) where
  -- what a word of the row has one place on, and one place back
  abbrev pub before : Bool
  before = ltb x room && (ltb 0 x && has_bit (bits near.own) (x - 1))

  abbrev pub behind : Bool
  behind = has_bit (bits near.own) (x + 1)

  up-is : has_bit (bits near.above) x ≡ (ltb 0 y && passes ((y - 1) * size.w + x))
  up-is = is.above x ∙ rw (lt-ltb _ _ lt) refl

  down-is : has_bit (bits near.below) x ≡ (ltb (y + 1) size.h && passes ((y + 1) * size.w + x))
  down-is = is.below x ∙ rw (lt-ltb _ _ lt) refl

  left-is : before ≡ (ltb 0 x && passes (y * size.w + (x - 1)))
  left-is = rw (lt-ltb x room (omega arith), is.own (x - 1), lt-ltb (x - 1) size.w (omega arith)) refl

  count-is : count_by passes (beside size (y * size.w + x)) ≡ num (has_bit (bits near.above) x) + num before + num behind + num (has_bit (bits near.below) x)
  count-is = beside-count size passes y x lt ∙ rw (up-is, left-is, is.own (x + 1), down-is) refl

  pub some-beside : ((has_bit (bits near.above) x || has_bit (bits near.below) x) || (before || behind)) ≡ ltb 0 (count_by passes (beside size (y * size.w + x)))
  some-beside = rw count-is (grind (arith, common_steps, cases_Bool (has_bit (bits near.above) x), cases_Bool before, cases_Bool behind, cases_Bool (has_bit (bits near.below) x)))

  pub one-beside : ((differ (has_bit (bits near.above) x || has_bit (bits near.below) x) (before || behind) && not (has_bit (bits near.above) x && has_bit (bits near.below) x)) && not (before && behind))
      ≡ eqb (count_by passes (beside size (y * size.w + x))) 1
  unfolding differ
  one-beside = rw count-is (grind (arith, common_steps, cases_Bool (has_bit (bits near.above) x), cases_Bool before, cases_Bool behind, cases_Bool (has_bit (bits near.below) x)))

-- ---- those of the cells that can be a one
pub row-ones : (p : Layers) (y word : ℕ) → ((x : ℕ) → has_bit word x ≡ bit_of p.rows y 1 x) → ((x : ℕ) → has_bit word x ≡ true → x < p.size.w) → IsRowOf p.size.w (λ c. planes_have p c 1) y word
row-ones p y word is within x = grind (arith, common_steps, cases_lt, lt-ltb, has-at, le-ltb, false_from_ne_true)

-- the words of a row and of those beside it, where there are such rows
pub near-ones : {W : Type 0} (bits : W → ℕ) (p : Layers) {y : ℕ} (near : ThreeRows W)
    → (0 < y → IsRowOf p.size.w (λ c. planes_have p c 1) (y - 1) (bits near.above)) → (y ≡ 0 → (x : ℕ) → has_bit (bits near.above) x ≡ false)
    → IsRowOf p.size.w (λ c. planes_have p c 1) y (bits near.own)
    → (y + 1 < p.size.h → IsRowOf p.size.w (λ c. planes_have p c 1) (y + 1) (bits near.below)) → (p.size.h ≤ y + 1 → (x : ℕ) → has_bit (bits near.below) x ≡ false)
    → IsNear bits p.size (λ c. planes_have p c 1) y near
near-ones bits p {y} near above top own below bottom = grind (arith, common_steps, cases_lt, lt-ltb, le-ltb, cases_Bool)

-- ---- from row to row
-- what the three rows before row y have, where there are such rows
pub record IsBefore {W : Type 0} (bits : W → ℕ) (size : Extent) (passes : ℕ → Bool) (y : ℕ) (near : ThreeRows W) : Type 0 where
  pub above : (x : ℕ) → has_bit (bits near.own) x ≡ (ltb x size.w && (ltb 0 y && passes ((y - 1) * size.w + x)))
  pub own : IsRowIn size passes y (bits near.below)

pub before-first : {W : Type 0} {bits : W → ℕ} {size : Extent} {passes : ℕ → Bool} (near : ThreeRows W) (below : W) → IsRowIn size passes 0 (bits below)
    → ((x : ℕ) → has_bit (bits near.own) x ≡ false) → near.below ≡ below → IsBefore bits size passes 0 near
before-first {size = size} near below is none e = record { above = λ x. none x ∙ sym (and-false (ltb x size.w)); own = rw e is }

pub near-next : {W : Type 0} {bits : W → ℕ} {size : Extent} {passes : ℕ → Bool} {y : ℕ} {near next : ThreeRows W} (below : W)
    → next ≡ record { above = near.own; own = near.below; below = below } → y < size.h
    → IsBefore bits size passes y near → IsRowIn size passes (y + 1) (bits below) → IsNear bits size passes y next
near-next {size = size} {y = y} below e lt is row = grind (arith, common_steps, lt-ltb)

pub before-next : {W : Type 0} {bits : W → ℕ} {size : Extent} {passes : ℕ → Bool} {y : ℕ} {near : ThreeRows W} → IsNear bits size passes y near → IsBefore bits size passes (y + 1) near
before-next {y = y} is = grind (arith, common_steps, lt-ltb)

-- ---- the cells of a row that a search of Tents starts without, and its trees that want a tent
module _ (p : Tents) (y trees : ℕ) (trees_is : IsRowOf p.size.w (tree p) y trees) where
  pub row-wants : (others wants : ℕ) → ((x : ℕ) → x < p.size.w → has_bit others x ≡ ltb 0 (count_by (λ d. not (tree p d)) (beside p.size (y * p.size.w + x))))
      → ((x : ℕ) → has_bit wants x ≡ (has_bit trees x && has_bit others x)) → IsRowOf p.size.w (wants_tent p) y wants
  unfolding wants_tent
  row-wants others wants others_is is x = grind (arith, common_steps, cases_lt, some-counted, lt-ltb, le-ltb)

  pub row-barred : (all near barred : ℕ) → ((x : ℕ) → has_bit all x ≡ ltb x p.size.w)
      → ((x : ℕ) → x < p.size.w → has_bit near x ≡ ltb 0 (count_by (tree p) (beside p.size (y * p.size.w + x))))
      → ((x : ℕ) → has_bit barred x ≡ (has_bit all x && not (has_bit near x && not (has_bit trees x)))) → IsRowOf p.size.w (is_barred p) y barred
  unfolding is_barred
  row-barred all near barred all_is near_is is x = grind (arith, common_steps, cases_lt, some-counted, lt-ltb, cases_Bool, le-ltb)

-- ---- 0 taken from those of the cells that are beside some places of the row
module _ {W : Type 0} (bits : W → ℕ) (room : ℕ) (size : Extent) (passes : ℕ → Bool) (y above below : ℕ) (near : ThreeRows W) (places over own under : ℕ)
    (pos : 0 < size.w) (narrow : size.w ≤ room) (e_above : above ≡ y - 1) (e_below : y + 1 < size.h → below ≡ y + 1)
    (places_in : (x : ℕ) → has_bit places x ≡ true → x < size.w)
    (over_is : (x : ℕ) → has_bit over x ≡ (has_bit (bits near.above) x && has_bit places x))
    (own_is : (x : ℕ) → has_bit own x ≡ (has_bit (bits near.own) x && ((ltb x room && (ltb 0 x && has_bit places (x - 1))) || has_bit places (x + 1))))
    (under_is : (x : ℕ) → has_bit under x ≡ (has_bit (bits near.below) x && has_bit places x))
    (is : IsNear bits size passes y near) (c : ℕ) where
  abbrev row : ℕ
  row = c / size.w

  abbrev column : ℕ
  column = c % size.w

  abbrev near_place : Bool
  near_place = is_beside size y (has_bit places) size.w c

  abbrev IsStruck : Type 0
  IsStruck = (passes c && near_place) ≡ true

  at : (k : ℕ) → row ≡ k → k * size.w + column ≡ c
  at k e = ap (λ n. n * size.w + column) (sym e) ∙ div-add-mod' c size.w

  struck : (x : ℕ) → has_bit places x ≡ true → passes c ≡ true → has_place (beside size (y * size.w + x)) c ≡ true → IsStruck
  unfolding is_beside
  struck x on test there = and_from _ _ test (any_below-here _ size.w x (places_in x on) (and_from _ _ on there))

  from-over : row ≡ above → has_bit over column ≡ true → IsStruck
  from-over e on =
      let parts = and_parts _ _ (sym (over_is column) ∙ on) in
      let there = and_parts _ _ (and_parts _ _ (sym (is.above column) ∙ parts.0)).1 in let cell = at (y - 1) (e ∙ e_above) in
      struck column parts.1 (ap passes (sym cell) ∙ there.1)
      (beside-has size y c (places_in column parts.1) ∙ or_left _ _ (or_left _ _ (or_left _ _ (and_from _ _ there.0 (eq-eqb _ _ cell)))))

  from-under : row ≡ below → has_bit under column ≡ true → IsStruck
  from-under e on =
      let parts = and_parts _ _ (sym (under_is column) ∙ on) in
      let there = and_parts _ _ (and_parts _ _ (sym (is.below column) ∙ parts.0)).1 in
      let cell = at (y + 1) (e ∙ e_below (ltb-true _ _ there.0)) in
      struck column parts.1 (ap passes (sym cell) ∙ there.1)
      (beside-has size y c (places_in column parts.1) ∙ or_right _ _ (and_from _ _ there.0 (eq-eqb _ _ cell)))

  from-own : row ≡ y → has_bit own column ≡ true → IsStruck
  from-own e on =
      let parts = and_parts _ _ (sym (own_is column) ∙ on) in let cell = at y e in
      let test : passes c ≡ true = ap passes (sym cell) ∙ (and_parts _ _ (sym (is.own column) ∙ parts.0)).1 in
      elim (or_cases _ _ parts.1) [
        | inl left ↦
            let w = and_parts _ _ (and_parts _ _ left).1 in
            let some : 0 < column = ltb-true _ _ w.0 in let less : column < size.w = mod-lt c pos in
            let here : y * size.w + (column - 1 + 1) ≡ c = (let next : column - 1 + 1 ≡ column = omega (arith, some) in rw next cell) in
            struck (column - 1) w.1 test (beside-has size y c (places_in (column - 1) w.1)
            ∙ or_left _ _ (or_right _ _ (and_from _ _ (lt-ltb (column - 1 + 1) size.w (omega (arith, some, less))) (eq-eqb _ _ here))))
        | inr right ↦
            let here : y * size.w + (column + 1 - 1) ≡ c = (let back : column + 1 - 1 ≡ column = omega arith in rw back cell) in
            struck (column + 1) right test (beside-has size y c (places_in (column + 1) right)
            ∙ or_left _ _ (or_left _ _ (or_right _ _ (and_from _ _ (lt-ltb 0 (column + 1) (omega arith)) (eq-eqb _ _ here)))))
      ]

  parts-of : (k : ℕ) {x : ℕ} → x < size.w → k * size.w + x ≡ c → (row ≡ k) × (column ≡ x)
  parts-of k {x} lt e = (ap (λ n. n / size.w) (sym e) ∙ div-mul-add k size.w x lt, ap (λ n. n % size.w) (sym e) ∙ place-column size.w k x lt)

  abbrev taken : Bool
  taken = ((eqb row above && has_bit over column) || (eqb row y && has_bit own column)) || (eqb row below && has_bit under column)

  to-over : {x : ℕ} → x < size.w → has_bit places x ≡ true → passes c ≡ true → ltb 0 y ≡ true → (y - 1) * size.w + x ≡ c → taken ≡ true
  to-over {x} lt on test some e =
      let at = parts-of (y - 1) lt e in
      or_left _ _ (or_left _ _ (and_from _ _ (eq-eqb _ _ (at.0 ∙ sym e_above))
      (over_is column ∙ rw (at.1) (and_from _ _ (is.above x ∙ rw (lt-ltb _ _ lt, some, e) test) on))))

  to-under : {x : ℕ} → x < size.w → has_bit places x ≡ true → passes c ≡ true → ltb (y + 1) size.h ≡ true → (y + 1) * size.w + x ≡ c → taken ≡ true
  to-under {x} lt on test some e =
      let at = parts-of (y + 1) lt e in
      or_right _ _ (and_from _ _ (eq-eqb _ _ (at.0 ∙ sym (e_below (ltb-true _ _ some))))
      (under_is column ∙ rw (at.1) (and_from _ _ (is.below x ∙ rw (lt-ltb _ _ lt, some, e) test) on)))

  to-own : {k : ℕ} → k < size.w → passes c ≡ true → y * size.w + k ≡ c
      → ((ltb k room && (ltb 0 k && has_bit places (k - 1))) || has_bit places (k + 1)) ≡ true → taken ≡ true
  to-own {k} lt test e on =
      let at = parts-of y lt e in
      or_left _ _ (or_right _ _ (and_from _ _ (eq-eqb _ _ at.0)
      (own_is column ∙ rw (at.1) (and_from _ _ (is.own k ∙ rw (lt-ltb _ _ lt, e) test) on))))

  to-taken : {x : ℕ} → x < size.w → has_bit places x ≡ true → passes c ≡ true → has_place (beside size (y * size.w + x)) c ≡ true → taken ≡ true
  to-taken {x} lt on test there = elim (or_cases _ _ (sym (beside-has size y c lt) ∙ there)) [
    | inr down ↦ let w = and_parts _ _ down in to-under lt on test w.0 (eqb-true _ _ w.1)
    | inl rest ↦ elim (or_cases _ _ rest) [
      | inr right ↦
          let w = and_parts _ _ right in let less : x + 1 < size.w = ltb-true _ _ w.0 in
          let before : has_bit places (x + 1 - 1) ≡ true = (let back : x + 1 - 1 ≡ x = omega arith in rw back on) in
          to-own less test (eqb-true _ _ w.1) (or_left _ _ (and_from _ _ (lt-ltb (x + 1) room (omega (arith, less, narrow))) (and_from _ _ (lt-ltb 0 (x + 1) (omega arith)) before)))
      | inl more ↦ elim (or_cases _ _ more) [
        | inl up ↦ let w = and_parts _ _ up in to-over lt on test w.0 (eqb-true _ _ w.1)
        | inr left ↦
            let w = and_parts _ _ left in let some : 0 < x = ltb-true _ _ w.0 in
            let behind : has_bit places (x - 1 + 1) ≡ true = (let next : x - 1 + 1 ≡ x = omega (arith, some) in rw next on) in
            let less : x - 1 < size.w = omega (arith, lt) in to-own less test (eqb-true _ _ w.1) (or_right _ _ behind)
      ]
    ]
  ]

  pub taken-is : taken ≡ (passes c && near_place)
  unfolding is_beside
  taken-is = same-truth _ _
      (λ on. elim (or_cases _ _ on) [
        | inr low ↦ let w = and_parts _ _ low in from-under (eqb-true _ _ w.0) w.1
        | inl rest ↦ elim (or_cases _ _ rest) [
          | inl high ↦ let w = and_parts _ _ high in from-over (eqb-true _ _ w.0) w.1
          | inr same ↦ let w = and_parts _ _ same in from-own (eqb-true _ _ w.0) w.1
        ]
      ])
      (λ on.
      let parts = and_parts _ _ on in let w = any_below-some _ size.w parts.1 in
      let both = and_parts _ _ w.2 in to-taken w.1 both.0 parts.0 both.1)

pub zeros-taken : {w w₂ w₃ : ℕ} (above y below over own under : ℕ) (passes : ℕ → Bool) (K : Candidates) {K₁ K₂ K₃ : Candidates}
    → K₁ ≡ without_taking w K (record { line = Row above; value = 0; bits = over })
    → K₂ ≡ without_taking w₂ K₁ (record { line = Row y; value = 0; bits = own })
    → K₃ ≡ without_taking w₃ K₂ (record { line = Row below; value = 0; bits = under })
    → w₂ ≡ w → w₃ ≡ w → ((c : ℕ) → (((eqb (c / w) above && has_bit over (c % w)) || (eqb (c / w) y && has_bit own (c % w))) || (eqb (c / w) below && has_bit under (c % w))) ≡ passes c)
    → K₃ ≡ without_zeros passes K
unfolding without_taking covers crosses without_zeros
zeros-taken {w} above y below over own under passes K first second third e₂ e₃ is = third ∙ rw (e₃, second, e₂, first) (fun_ext λ c. fun_ext λ v.
    rw (sym (is c)) (grind (arith, common_steps, cases_Bool (K c v), cases_Bool (eqb v 0), cases_Bool (eqb (c / w) above && has_bit over (c % w)), cases_Bool (eqb (c / w) y && has_bit own (c % w)), cases_Bool (eqb (c / w) below && has_bit under (c % w)))))
