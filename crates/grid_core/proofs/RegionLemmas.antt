-- The places of regions and of lines.
use Rattle.grid_core.proofs.Common.{Extent, IsExtent, List, None, Some, [], add-one, ap, arith, cases_Bool, cases_eq, cases_lt, column_places, common_steps, div-lt_iff_lt-mul, down, get_or-append_seam, get_or-map, get_or-map-range_with_len, get_or_append_left, le-ltb, left, length, length-append, length-map-range_with_len, lt-ltb, map, max_cells, max_side, mod-lt, mul-le-mul_right, range_with_len, refl, right, row_places, slice_get, slice_get-get_or, slice_get_within, slice_index, step, steps, suc, sym, up, zero, ℕ, ◌%◌, ◌*◌, ◌++◌, ◌+◌, ◌-◌, ◌/◌, ◌<◌, ◌∙◌, ◌∷◌, ◌≡◌, ◌≤◌}
use Rattle.std.proofs.lemmas.Simd.{map-map}
use Rattle.grid_core.specs.Grids.{column_cells, row_cells}
use Rattle.grid_core.specs.Lines.{line_cells, line_numbers, line_places}

-- ---- lines and blocks
pub line_at : (place : ℕ → ℕ) {n : ℕ} (k : ℕ) → k < n → slice_index (map place (range_with_len 0 n)) k ≡ place k
line_at place {n} k lt = get_or-map-range_with_len place 0 n k k 0 lt (omega arith)

pub row-at : (size : Extent) (y k : ℕ) → k < size.w → y * size.w + k ≡ slice_index (row_places size y) k
row-at size y k lt = sym (line_at (λ x. y * size.w + x) k lt)

pub column-at : (size : Extent) (x k : ℕ) → k < size.h → k * size.w + x ≡ slice_index (column_places size x) k
column-at size x k lt = sym (line_at (λ y. y * size.w + x) k lt)

-- ---- one step
pub step_cases : (size : Extent) (place d : ℕ) → (step size place d ≡ step size place d)
    × (d ≡ 0 → step size place d ≡ up size place) × (d ≡ 1 → step size place d ≡ left size place)
    × (d ≡ 2 → step size place d ≡ right size place) × (d ≡ 3 → step size place d ≡ down size place)
unfolding step
step_cases size place d = (refl, λ e. rw e refl, λ e. rw e refl, λ e. rw e refl, λ e. rw e refl)

-- ---- the steps that stay in the grid
pub steps-none : (size : Extent) (place n : ℕ) → None ≡ step size place n → length (steps size place (n + 1)) ≡ length (steps size place n)
unfolding steps
steps-none size place n e = rw (add-one, ← e) (omega (arith, length-append (steps size place n) []))

pub steps-some : (size : Extent) (place n : ℕ) {cell : ℕ} → Some cell ≡ step size place n → length (steps size place (n + 1)) ≡ length (steps size place n) + 1
unfolding steps
steps-some size place n {cell} e = rw (add-one, ← e) (omega (arith, length-append (steps size place n) (cell ∷ [])))

get-append : (xs ys : List ℕ) (k x : ℕ) → slice_get xs k ≡ Some x → slice_get (xs ++ ys) k ≡ Some x
get-append xs ys k x e =
    let lt : k < length xs = slice_get_within xs k x e in
    slice_get-get_or (xs ++ ys) k 0 (omega (arith, length-append xs ys)) ∙ ap Some (get_or_append_left xs ys 0 k lt) ∙ sym (slice_get-get_or xs k 0 lt) ∙ e

get-seam : (xs : List ℕ) (x : ℕ) → slice_get (xs ++ x ∷ []) (length xs) ≡ Some x
get-seam xs x = slice_get-get_or (xs ++ x ∷ []) (length xs) 0 (omega (arith, length-append xs (x ∷ []))) ∙ ap Some (get_or-append_seam xs x [] 0)

-- a cell that is one step away stands after those of the directions before
pub steps-at : (size : Extent) (place m n cell : ℕ) → n < m → Some cell ≡ step size place n
    → slice_get (steps size place m) (length (steps size place n)) ≡ Some cell
unfolding steps
steps-at size place zero n cell lt e = absurd (omega arith)
steps-at size place (suc m) n cell lt e = grind (arith, common_steps, cases_eq, get-append, get-seam, steps-at size place m n cell)

-- ---- a block lies in the grid
-- the a-th of m parts of s each, and a place in it
part-within : (m : ℕ) {s a i : ℕ} → a < m → i < s → a * s + i < m * s
part-within m {s} {a} la li = let h : (a + 1) * s ≤ m * s = mul-le-mul_right s (omega arith) in omega arith

pub block-within : (c r b k : ℕ) → b < c * r → k < c * r → ((b / c) * c + k / r) * (c * r) + ((b % c) * r + k % r) < (c * r) * (c * r)
block-within c r b k lb lk =
    let some = both_pos c r (omega arith) in
    let band : b / c < r = (div-lt_iff_lt-mul some.0).1 (omega arith) in
    let down : k / r < c = (div-lt_iff_lt-mul some.1).1 lk in
    let y = part-within r band down in
    part-within (c * r) {a = (b / c) * c + k / r} (omega arith) (part-within c (mod-lt b some.0) (mod-lt k some.1))
  where
    both_pos : (a b : ℕ) → 0 < a * b → (0 < a) × (0 < b)
    both_pos zero b lt = absurd (omega arith)
    both_pos (suc a) zero lt = absurd (omega arith)
    both_pos (suc a) (suc b) lt = (omega arith, omega arith)

-- what the places of cells are
pub ruleset place_laws = (line_at, step_cases, block-within)

-- The places and the numbers of a grid's lines.

-- ---- the places of a line
pub column-places : (size : Extent) (line : ℕ) → line < size.w → line_places size line ≡ column_places size line
unfolding line_places
column-places size line lt = rw (lt-ltb line size.w lt) refl

pub row-places : (size : Extent) (line : ℕ) → size.w ≤ line → line_places size line ≡ row_places size (line - size.w)
unfolding line_places
row-places size line le = rw (le-ltb line size.w le) refl

pub length-line_places : (size : Extent) (line : ℕ) → length (line_places size line) ≡ line_cells size line
length-line_places size line = grind (arith, common_steps, cases_Bool, cases_lt, column-places, le-ltb, length-map-range_with_len, lt-ltb, row-places)

pub place_in_column : (size : Extent) (line k : ℕ) → line < size.w → k < size.h → slice_index (line_places size line) k ≡ k * size.w + line
place_in_column size line k lt within = grind (arith, common_steps, cases_Bool, column-places, get_or-map-range_with_len)

pub place_in_row : (size : Extent) (line k : ℕ) → size.w ≤ line → k < size.w → slice_index (line_places size line) k ≡ (line - size.w) * size.w + k
place_in_row size line k le within = grind (arith, common_steps, cases_Bool, get_or-map-range_with_len, row-places)

pub line_numbers-column : (size : Extent) (g : List ℕ) (line : ℕ) → line < size.w → line_numbers size g line ≡ column_cells size g line
unfolding line_numbers
line_numbers-column size g line lt = rw (lt-ltb line size.w lt) refl

pub line_numbers-row : (size : Extent) (g : List ℕ) (line : ℕ) → size.w ≤ line → line_numbers size g line ≡ row_cells size g (line - size.w)
unfolding line_numbers
line_numbers-row size g line le = rw (le-ltb line size.w le) refl

-- the numbers of a line are those at its places
pub line_numbers-places : (size : Extent) (g : List ℕ) (line : ℕ) → map (slice_index g) (line_places size line) ≡ line_numbers size g line
line_numbers-places size g line = grind (arith, common_steps, cases_Bool, cases_lt, column-places, line_numbers-column, line_numbers-row, map-map, row-places)

pub few_cells : (size : Extent) → IsExtent size → size.w * size.h ≤ max_cells
few_cells size e = grind (arith, common_steps, cases_Bool, mul-le-mul_right)

pub length-line_numbers : (size : Extent) (g : List ℕ) (line : ℕ) → length (line_numbers size g line) ≡ line_cells size line
unfolding line_numbers
length-line_numbers size g line = grind (arith, common_steps, cases_Bool, length-map-range_with_len)

pub number_in_line : (size : Extent) (g : List ℕ) (line k : ℕ) → k < line_cells size line
    → slice_index g (slice_index (line_places size line) k) ≡ slice_index (line_numbers size g line) k
number_in_line size g line k within =
    sym (get_or-map (slice_index g) (line_places size line) k 0 0 (omega (arith, length-line_places size line)))
    ∙ ap (λ l. slice_index l k) (line_numbers-places size g line)

pub line_short : (size : Extent) (line : ℕ) → IsExtent size → line_cells size line ≤ max_side
line_short size line e = grind (arith, common_steps, cases_Bool)

pub ruleset line_laws = (line_short, column-places, row-places, length-line_places, few_cells, number_in_line)
