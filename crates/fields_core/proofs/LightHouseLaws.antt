-- The houses of Light Up, its tests, and which bulbs a cell sees.
use Rattle.fields_core.proofs.Common.{AreDistinct, Bool, CountHouse, Extent, IsGrid, IsHouse, Light, List, all_below, all_below-at, all_below-from, and_from, and_parts, ap, arith, begins_column_run, begins_row_run, black_right, bulb, bulb_right, cases_Bool, cases_eq, cases_lt, clear, column-at, column_places, column_run, common_steps, count_by, different-from, distinct-from, div-eq_of_lt, div-lt_iff_lt-mul, eq-eqb, eqb, eqb-false, eqb-true, false, false_from_ne_true, filter, filter_agree, get_or_past, has_place, inl, inr, joined_in_column, joined_in_row, le-leb, length, light_cells, lit_right, lt-ltb, ltb, ltb-true, max, meets_house, min, mod-lt, mul-le-mul_right, not, not-false, number_right, or_cases, or_left, or_parts, or_right, row-at, row_places, row_run, sees, slice_index, solves_lights, sym, true, white, ℕ, ◌%◌, ◌*◌, ◌+◌, ◌-◌, ◌/◌, ◌<◌, ◌||◌, ◌∙◌, ◌≡◌, ◌≤◌}
use Rattle.fields_core.specs.declared.planes.light_up.waits.RunKind.{RunKind}
use Rattle.fields_core.specs.declared.planes.light_up.waits.RunKind.TheVariants.{Columns, Rows}
use Rattle.fields_core.proofs.HouseLemmas.{column-long, row-long}
use Rattle.fields_core.proofs.BesideLemmas.{cell-below, cell-parts, whole-cell}
use Rattle.fields_core.proofs.PlaceLists.{ones-bulbs}

-- The four parts of the test of a grid of Light Up.
pub lit-from : (p : Light) (g : List ℕ) → all_below (black_right p g) (light_cells p) ≡ true → all_below (number_right p g) (light_cells p) ≡ true
    → all_below (bulb_right p g) (light_cells p) ≡ true → all_below (lit_right p g) (light_cells p) ≡ true → solves_lights p g ≡ true
unfolding solves_lights
lit-from p g a b c d = and_from _ _ a (and_from _ _ b (and_from _ _ c d))

pub record LitParts (p : Light) (g : List ℕ) : Type 0 where
  pub black : all_below (black_right p g) (light_cells p) ≡ true
  pub number : all_below (number_right p g) (light_cells p) ≡ true
  pub seen : all_below (bulb_right p g) (light_cells p) ≡ true
  pub lit : all_below (lit_right p g) (light_cells p) ≡ true

pub lit-parts : (p : Light) (g : List ℕ) → solves_lights p g ≡ true → LitParts p g
unfolding solves_lights
lit-parts p g on = grind (arith, common_steps, and_parts)

-- Which bulbs a cell sees: what a walk along its row and its column shows.

-- the cells of a row and of a column, by column and by row
pub row-of : (p : Light) (c d : ℕ) → 0 < p.size.w → joined_in_row p c d ≡ true
    → (x : ℕ) × (x < p.size.w) × (slice_index (row_places p.size (c / p.size.w)) x ≡ d)
unfolding joined_in_row
row-of p c d pos on =
    let same = eqb-true (c / p.size.w) (d / p.size.w) (and_parts _ _ on).0 in let lt = mod-lt d pos in
    (d % p.size.w, lt, sym (row-at p.size (c / p.size.w) (d % p.size.w) lt) ∙ rw same (omega arith))

pub column-of : (p : Light) (c d : ℕ) → 0 < p.size.w → d < light_cells p
    → joined_in_column p c d ≡ true → (y : ℕ) × (y < p.size.h)
    × (slice_index (column_places p.size (c % p.size.w)) y ≡ d)
unfolding joined_in_column
column-of p c d pos below on =
    let same = eqb-true (c % p.size.w) (d % p.size.w) (and_parts _ _ on).0 in
    let lt : d / p.size.w < p.size.h = (div-lt_iff_lt-mul pos).1 (omega arith) in
    (d / p.size.w, lt, sym (column-at p.size (c % p.size.w) (d / p.size.w) lt) ∙ rw same (omega arith))

-- a bulb stands in the grid
pub bulb-in : (g : List ℕ) {cells : ℕ} (d : ℕ) → length g ≡ cells → bulb g d ≡ true → d < cells
bulb-in g d long on = grind (arith, common_steps, cases_lt, eqb-true, slice_index, get_or_past)

pub some-column : (p : Light) {c : ℕ} → c < light_cells p → 0 < p.size.w
some-column p lt = grind (arith, common_steps)

-- The houses of Light Up are houses, and each solution meets them.

-- ---- a house of the board that each solution meets
pub record IsMet (cells : ℕ) (good : List ℕ → Bool) (house : CountHouse) : Type 0 where
  pub is_house : IsHouse cells house
  pub met : (g : List ℕ) → IsGrid cells 2 g → good g ≡ true → meets_house house g ≡ true

pub small-at : {cells : ℕ} {g : List ℕ} → IsGrid cells 2 g → (c : ℕ) → slice_index g c < 2
small-at grid c = grind (arith, common_steps, cases_lt, get_or_past)

-- the ones of its cells are to be counted
pub met-from : {cells : ℕ} {good : List ℕ → Bool} {house : CountHouse} → ((c : ℕ) → has_place house.places c ≡ true → c < cells) → AreDistinct house.places
    → length house.places ≤ 512 → house.least ≤ 512 → house.most ≤ 512
    → ((g : List ℕ) → IsGrid cells 2 g → good g ≡ true → (house.least ≤ count_by (bulb g) house.places) × (count_by (bulb g) house.places ≤ house.most))
    → IsMet cells good house
unfolding meets_house
met-from within distinct few least most counted = grind (arith, common_steps, different-from, ones-bulbs, small-at, and_from, le-leb)

-- ---- white cells and lines
pub clear-at : (test : ℕ → Bool) (j k i : ℕ) → clear test j k ≡ true → min j k ≤ i → i ≤ max j k → test i ≡ true
unfolding clear
clear-at test j k i on low high =
    elim (or_cases _ (test i)
    (all_below-at (λ i. ltb i (min j k) || test i) _ i on (omega arith))) [
      | inl below ↦ let l = ltb-true i (min j k) below in absurd (omega arith)
      | inr here ↦ here
    ]

pub clear-from : (test : ℕ → Bool) (j k : ℕ) → ((i : ℕ) → min j k ≤ i → i ≤ max j k → test i ≡ true) → clear test j k ≡ true
unfolding clear
clear-from test j k each = grind (arith, common_steps, all_below-from, cases_lt, or_left, lt-ltb, or_right)

-- two that are both joined to a third are joined
clear-both : (test : ℕ → Bool) (j k l : ℕ) → clear test j k ≡ true → clear test j l ≡ true → clear test k l ≡ true
clear-both test j k l a b = clear-from test k l (λ i low high. elim (cases_lt i j) [
  | inl before ↦ elim (cases_lt k j) [
    | inl kj ↦ elim (cases_lt i k) [
      | inl ik ↦ clear-at test j l i b (omega arith) (omega arith)
      | inr ki ↦ clear-at test j k i a (omega arith) (omega arith)
    ]
    | inr jk ↦ clear-at test j l i b (omega arith) (omega arith)
  ]
  | inr after ↦ elim (cases_lt k i) [
    | inl ki ↦ clear-at test j l i b (omega arith) (omega arith)
    | inr ik ↦ clear-at test j k i a (omega arith) (omega arith)
  ]
])

-- ---- a line of either kind: that of a cell, the cell's number in it, and the cell of a number
abbrev pub own_line : Light → RunKind → ℕ → ℕ
own_line p Rows c = c / p.size.w
own_line p Columns c = c % p.size.w

abbrev pub own_number : Light → RunKind → ℕ → ℕ
own_number p Rows c = c % p.size.w
own_number p Columns c = c / p.size.w

abbrev pub cell_on : Light → RunKind → ℕ → ℕ → ℕ
cell_on p Rows line k = line * p.size.w + k
cell_on p Columns line k = k * p.size.w + line

pub own-cell : (p : Light) (kind : RunKind) (c : ℕ) → cell_on p kind (own_line p kind c) (own_number p kind c) ≡ c
own-cell p Rows c = omega arith
own-cell p Columns c = omega arith

-- what is joined in it, its runs, and where they begin
abbrev pub joined_on : Light → RunKind → ℕ → ℕ → Bool
joined_on p Rows = joined_in_row p
joined_on p Columns = joined_in_column p

abbrev pub run_on : Light → RunKind → ℕ → List ℕ
run_on p Rows = row_run p
run_on p Columns = column_run p

abbrev pub begins_on : Light → RunKind → ℕ → Bool
begins_on p Rows = begins_row_run p
begins_on p Columns = begins_column_run p

pub line-parts : (p : Light) (kind : RunKind) (c d : ℕ) → joined_on p kind c d ≡ true → (own_line p kind c ≡ own_line p kind d)
    × (clear (λ k. white p (cell_on p kind (own_line p kind c) k)) (own_number p kind c) (own_number p kind d) ≡ true)
unfolding joined_in_row joined_in_column
line-parts p Rows c d on = let w = and_parts _ _ on in (eqb-true _ _ w.0, w.1)
line-parts p Columns c d on = let w = and_parts _ _ on in (eqb-true _ _ w.0, w.1)

pub line-joined : (p : Light) (kind : RunKind) (c d : ℕ) → own_line p kind c ≡ own_line p kind d
    → clear (λ k. white p (cell_on p kind (own_line p kind c) k)) (own_number p kind c) (own_number p kind d) ≡ true → joined_on p kind c d ≡ true
unfolding joined_in_row joined_in_column
line-joined p Rows c d same on = and_from _ _ (eq-eqb _ _ same) on
line-joined p Columns c d same on = and_from _ _ (eq-eqb _ _ same) on

pub line-both : (p : Light) (kind : RunKind) (c d e : ℕ) → joined_on p kind c d ≡ true → joined_on p kind c e ≡ true → joined_on p kind d e ≡ true
line-both p kind c d e a b =
    let v = line-parts p kind c d a in let w = line-parts p kind c e b in
    line-joined p kind d e (sym v.0 ∙ w.0) (rw (sym v.0) (clear-both (λ k. white p (cell_on p kind (own_line p kind c) k)) _ _ _ v.1 w.1))

-- both of two joined cells are white, and a white cell is joined to itself
module _ (p : Light) (kind : RunKind) (c d : ℕ) (on : joined_on p kind c d ≡ true) where
  pub line-white : (k : ℕ) → min (own_number p kind c) (own_number p kind d) ≤ k → k ≤ max (own_number p kind c) (own_number p kind d)
      → white p (cell_on p kind (own_line p kind c) k) ≡ true
  line-white k = clear-at (λ k. white p (cell_on p kind (own_line p kind c) k)) _ _ k (line-parts p kind c d on).1

  pub line-start : white p c ≡ true
  line-start = rw (own-cell p kind c) at (line-white (own_number p kind c) (omega arith) (omega arith))

  pub line-end : white p d ≡ true
  line-end =
      let here : cell_on p kind (own_line p kind c) (own_number p kind d) ≡ d = rw (line-parts p kind c d on).0 (own-cell p kind d) in
      rw here at (line-white (own_number p kind d) (omega arith) (omega arith))

pub line-self : (p : Light) (kind : RunKind) (c : ℕ) → white p c ≡ true → joined_on p kind c c ≡ true
unfolding joined_in_row joined_in_column
line-self p Rows c on = grind (arith, common_steps, and_from, eq-eqb, clear-from)
line-self p Columns c on = grind (arith, common_steps, and_from, eq-eqb, clear-from)

-- seeing goes both ways
pub sees_back : (p : Light) (a b : ℕ) → white p a ≡ true → sees p a b ≡ true → sees p b a ≡ true
unfolding sees
sees_back p a b on seen = grind (arith, common_steps, line-both p Rows a b a, line-self p Rows a, line-both p Columns a b a, line-self p Columns a)

-- joined cells have one run
joined-same : (p : Light) (kind : RunKind) (c d : ℕ) → white p c ≡ true → joined_on p kind c d ≡ true → (e : ℕ) → joined_on p kind c e ≡ joined_on p kind d e
joined-same p kind c d before on e =
    let back = line-both p kind c d c on (line-self p kind c before) in
    grind (arith, common_steps, cases_Bool, line-both, on, false_from_ne_true, back)

line-run-same : (p : Light) (kind : RunKind) (c d : ℕ) → white p c ≡ true → joined_on p kind c d ≡ true → run_on p kind c ≡ run_on p kind d
unfolding row_run column_run
line-run-same p Rows c d before on =
    filter_agree _ _ (joined-same p Rows c d before on) _ ∙ ap (λ y. filter (joined_in_row p d) (row_places p.size y)) (line-parts p Rows c d on).0
line-run-same p Columns c d before on =
    filter_agree _ _ (joined-same p Columns c d before on) _ ∙ ap (λ x. filter (joined_in_column p d) (column_places p.size x)) (line-parts p Columns c d on).0

-- the run of a line goes on at a white cell, unless one begins there
row-next : (p : Light) (c d : ℕ) → 0 < p.size.w → c + 1 ≡ d → white p c ≡ true → white p d ≡ true → (d % p.size.w ≡ 0 → ⊥) → joined_in_row p c d ≡ true
unfolding joined_in_row
row-next p c d some next before on inner =
    let parts : (c / p.size.w ≡ d / p.size.w) × (c % p.size.w ≡ d % p.size.w - 1) = grind (arith, common_steps, cell-parts) in
    grind (arith, common_steps, and_from, eq-eqb, parts, clear-from, cases_eq)

pub column-next : (p : Light) (c d : ℕ) → 0 < p.size.w → c + p.size.w ≡ d → white p c ≡ true → white p d ≡ true → joined_in_column p c d ≡ true
unfolding joined_in_column
column-next p c d some next before on =
    let below : (d / p.size.w ≡ c / p.size.w + 1) × (d % p.size.w ≡ c % p.size.w) = rw (sym next) (cell-below c some) in
    grind (arith, common_steps, and_from, eq-eqb, below, clear-from, cases_eq, whole-cell)

pub line-run-on : (p : Light) (kind : RunKind) (d : ℕ) → 0 < p.size.w → begins_on p kind d ≡ false → white p d ≡ true
    → (c : ℕ) × (c < d) × (white p c ≡ true) × (run_on p kind c ≡ run_on p kind d)
unfolding begins_row_run begins_column_run
line-run-on p Rows d some off on =
    let parts = or_parts (eqb (d % p.size.w) 0) (not (white p (d - 1))) (rw on at off) in
    let before = not-false _ parts.1 in
    let inner : d % p.size.w ≡ 0 → ⊥ = eqb-false _ _ parts.0 in
    let pos : 0 < d = grind (arith, common_steps, cases_eq d 0) in
    (d - 1, omega (arith, pos), before, line-run-same p Rows (d - 1) d before (row-next p (d - 1) d some (omega (arith, pos)) before on inner))
line-run-on p Columns d some off on =
    let parts = or_parts (eqb (d / p.size.w) 0) (not (white p (d - p.size.w))) (rw on at off) in
    let before = not-false _ parts.1 in
    let low : p.size.w ≤ d = grind (arith, common_steps, cases_lt, eq-eqb, div-eq_of_lt) in
    (d - p.size.w, omega (arith, low, some), before, line-run-same p Columns (d - p.size.w) d before (column-next p (d - p.size.w) d some (omega (arith, low)) before on))

-- a white cell lies in the grid
pub white-in : (p : Light) (c : ℕ) → length p.cells ≡ light_cells p → white p c ≡ true → c < light_cells p
unfolding white
white-in p c long on = grind (arith, common_steps, cases_lt, get_or_past)

-- ---- the places of lines and of neighbours are different
pub row-distinct : (size : Extent) (y : ℕ) → AreDistinct (row_places size y)
row-distinct size y = grind (arith, common_steps, distinct-from, row-long, row-at)

pub mul-inj : {j k w : ℕ} → 0 < w → j * w ≡ k * w → j ≡ k
mul-inj pos e = grind (arith, common_steps, cases_lt, mul-le-mul_right)

pub column-distinct : (size : Extent) (x : ℕ) → 0 < size.w → AreDistinct (column_places size x)
column-distinct size x pos = grind (arith, common_steps, distinct-from, column-long, column-at, mul-inj)
