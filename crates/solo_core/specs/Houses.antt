-- The cells and the houses of a puzzle of Solo.
use Rattle.std.specs.Prelude.{Bool, List, [], if◌then◌else◌, map, not, true, ℕ, ◌%◌, ◌&&◌, ◌*◌, ◌++◌, ◌+◌, ◌-◌, ◌/◌, ◌<◌, ◌==◌, ◌∷◌, ◌≡◌}
use Rattle.grid_core.specs.Extent.{Extent}
use Rattle.gameid_core.specs.Puzzles.{Solo, solo_n}
use Rattle.std.specs.List.{list_any, range_with_len}
use Rattle.grid_core.specs.Regions.{block_places, column_places, diagonal_places, row_places}
use Rattle.solo_core.specs.declared.houses.house.NamedHouse.{NamedHouse}
use Rattle.solo_core.specs.declared.houses.house.NamedHouse.TheVariants.{Block, Column, Diagonal, Row}

-- The cells of a puzzle of Solo (the manual of Simon Tatham's Portable Puzzle Collection, Solo). A block is r cells wide and
-- c cells tall, and c of them lie beside each other; all are counted row by row from the top left.
abbrev pub solo_cells : Solo → ℕ
solo_cells p = solo_n p * solo_n p

-- the grid has as many rows as columns
abbrev pub square : Solo → Extent
square p = record { w = solo_n p; h = solo_n p }

-- the row, the column and the block of a place
abbrev pub row_of : Solo → ℕ → ℕ
row_of p place = place / solo_n p

abbrev pub column_of : Solo → ℕ → ℕ
column_of p place = place % solo_n p

abbrev pub block_of : Solo → ℕ → ℕ
block_of p place = (row_of p place / p.c) * p.c + column_of p place / p.r

-- The condition of a house of Solo.

-- no number stands twice
unfoldable pub no_repeat : List ℕ → Bool
no_repeat [] = true
no_repeat (x ∷ xs) = not (list_any (λ y. x == y) xs) && no_repeat xs

-- The houses of a puzzle of Solo: the rows from the top, the columns from the left, the blocks, and in Solo X both
-- diagonals, of which 0 begins at the top left and 1 at the top right.

-- in the order of their numbers
abbrev pub houses_of : Solo → List NamedHouse
houses_of p =
    map Row (range_with_len 0 (solo_n p)) ++ (map Column (range_with_len 0 (solo_n p))
    ++ (map Block (range_with_len 0 (solo_n p))
    ++ (if p.x then Diagonal 0 ∷ Diagonal 1 ∷ [] else [])))

-- the puzzle has the house
abbrev pub IsSoloHouse : Solo → NamedHouse → Type 0
IsSoloHouse p (Row y) = y < solo_n p
IsSoloHouse p (Column i) = i < solo_n p
IsSoloHouse p (Block b) = b < solo_n p
IsSoloHouse p (Diagonal d) = (d < 2) × (p.x ≡ true)

-- whether the place lies in the house
abbrev pub lies_in_house : Solo → NamedHouse → ℕ → Bool
lies_in_house p (Row y) place = row_of p place == y
lies_in_house p (Column i) place = column_of p place == i
lies_in_house p (Block b) place = block_of p place == b
lies_in_house p (Diagonal d) place =
    column_of p place == (if d == 0 then row_of p place else solo_n p - 1 - row_of p place)

-- its places: of a row from the left, of a column or a diagonal from the top, of a block row by row
abbrev pub places_of : Solo → NamedHouse → List ℕ
places_of p (Row y) = row_places (square p) y
places_of p (Column i) = column_places (square p) i
places_of p (Block b) = block_places p.c p.r b
places_of p (Diagonal d) = diagonal_places (solo_n p) d

-- those of each house
abbrev pub house_places : Solo → List (List ℕ)
house_places p = map (places_of p) (houses_of p)
