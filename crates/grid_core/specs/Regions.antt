-- The lines, blocks, diagonals and neighbours of a grid, as lists of places.
-- The place of the cell in column x and row y is y * w + x.
use Rattle.std.specs.Prelude.{ℕ, zero, suc, ◌+◌, ◌-◌, ◌*◌, ◌/◌, ◌%◌, ◌==◌, nat_le, nat_lt, if◌then◌else◌, List, [], ◌∷◌, ◌++◌, map, Option, Some, None}
use Rattle.std.specs.List.{range_with_len}
use Rattle.grid_core.specs.Extent.{Extent}

-- the cells of a row from the left, and of a column from the top
abbrev pub row_places : Extent → ℕ → List ℕ
row_places size y = map (λ x. y * size.w + x) (range_with_len 0 size.w)

abbrev pub column_places : Extent → ℕ → List ℕ
column_places size x = map (λ y. y * size.w + x) (range_with_len 0 size.h)

-- the cells of a block, row by row, in a square grid with c blocks beside each other,
-- each r columns wide and c rows tall
abbrev pub block_places : ℕ → ℕ → ℕ → List ℕ
block_places c r b =
    map (λ k. ((b / c) * c + k / r) * (c * r) + ((b % c) * r + k % r)) (range_with_len 0 (c * r))

-- the cells of a diagonal of a square grid of n columns, from the top:
-- diagonal 0 begins at the left, 1 at the right
abbrev pub diagonal_places : ℕ → ℕ → List ℕ
diagonal_places n d = map (λ k. k * n + (if d == 0 then k else n - 1 - k)) (range_with_len 0 n)

-- the cell above the place, to its left, to its right and below it, where the grid has one
abbrev pub up : Extent → ℕ → Option ℕ
up size place = if nat_le 1 (place / size.w) then Some (place - size.w) else None

abbrev pub left : Extent → ℕ → Option ℕ
left size place = if nat_le 1 (place % size.w) then Some (place - 1) else None

abbrev pub right : Extent → ℕ → Option ℕ
right size place = if nat_lt (place % size.w + 1) size.w then Some (place + 1) else None

abbrev pub down : Extent → ℕ → Option ℕ
down size place = if nat_lt (place / size.w + 1) size.h then Some (place + size.w) else None

-- the cell one step away: 0 up, 1 left, 2 right, 3 down
unfoldable pub step : Extent → ℕ → ℕ → Option ℕ
step size place zero = up size place
step size place (suc zero) = left size place
step size place (suc (suc zero)) = right size place
step size place (suc (suc (suc direction))) = down size place

-- the number that is there, as a list
abbrev pub if_there : Option ℕ → List ℕ
if_there None = []
if_there (Some place) = place ∷ []

-- the cells that share a side with the place, in the order of the first n directions
unfoldable pub steps : Extent → ℕ → ℕ → List ℕ
steps size place zero = []
steps size place (suc n) = steps size place n ++ if_there (step size place n)

-- the cells that share a side with the place: up, left, right, down
abbrev pub beside : Extent → ℕ → List ℕ
beside size place = steps size place 4
