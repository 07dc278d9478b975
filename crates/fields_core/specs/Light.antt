-- The rules of Light Up: which cells see each other, and which grids are solutions. The place of the cell in column x and
-- row y is y * w + x; a grid has 1 at a bulb and 0 elsewhere.
use Rattle.std.specs.Prelude.{ℕ, suc, min, max, ◌+◌, ◌*◌, ◌/◌, ◌%◌, Bool, true, false, not, ◌&&◌, ◌||◌, ◌==◌, nat_lt, List, slice_index, slice_index_or, count_by}
use Rattle.fields_core.specs.Below.{Black, Light, LightCell, Numbered, White, all_below, any_below, beside}

abbrev pub light_cells : Light → ℕ
light_cells p = p.size.w * p.size.h

abbrev pub is_white : LightCell → Bool
is_white White = true
is_white Black = false
is_white (Numbered n) = false

-- the cell is white
unfoldable pub white : Light → ℕ → Bool
white p c = is_white (slice_index_or p.cells c Black)

-- the grid has a bulb in the cell
abbrev pub bulb : List ℕ → ℕ → Bool
bulb g c = slice_index g c == 1

-- the test holds at both numbers and at each between them
unfoldable pub clear : (ℕ → Bool) → ℕ → ℕ → Bool
clear test j k = all_below (λ i. nat_lt i (min j k) || test i) (suc (max j k))

-- two cells of one row that are white, and each cell between them too; and of one column
unfoldable pub joined_in_row : Light → ℕ → ℕ → Bool
joined_in_row p a b =
    (a / p.size.w == b / p.size.w)
    && clear (λ x. white p (a / p.size.w * p.size.w + x)) (a % p.size.w) (b % p.size.w)

unfoldable pub joined_in_column : Light → ℕ → ℕ → Bool
joined_in_column p a b =
    (a % p.size.w == b % p.size.w)
    && clear (λ y. white p (y * p.size.w + a % p.size.w)) (a / p.size.w) (b / p.size.w)

-- different white cells of one row or one column with only white cells between them
unfoldable pub sees : Light → ℕ → ℕ → Bool
sees p a b = not (a == b) && (joined_in_row p a b || joined_in_column p a b)

-- the cell sees a bulb
unfoldable pub sees_bulb : Light → List ℕ → ℕ → Bool
sees_bulb p g c = any_below (λ d. sees p c d && bulb g d) (light_cells p)

-- how many bulbs stand beside the cell
abbrev pub bulbs_beside : Light → List ℕ → ℕ → ℕ
bulbs_beside p g c = count_by (bulb g) (beside p.size c)

-- a black cell has that many bulbs beside it, if it has a number
abbrev pub number_is : LightCell → ℕ → Bool
number_is White bulbs = true
number_is Black bulbs = true
number_is (Numbered n) bulbs = bulbs == n

-- no bulb stands on the black cell; the number is met; the bulb sees no bulb; the white cell holds or sees a bulb
unfoldable pub black_right : Light → List ℕ → ℕ → Bool
black_right p g c = white p c || (slice_index g c == 0)

unfoldable pub number_right : Light → List ℕ → ℕ → Bool
number_right p g c = number_is (slice_index_or p.cells c Black) (bulbs_beside p g c)

unfoldable pub bulb_right : Light → List ℕ → ℕ → Bool
bulb_right p g c = not (bulb g c && sees_bulb p g c)

unfoldable pub lit_right : Light → List ℕ → ℕ → Bool
lit_right p g c = not (white p c) || (bulb g c || sees_bulb p g c)

-- bulbs stand on white cells alone; each numbered black cell has that many bulbs beside it; no bulb sees a bulb; each
-- white cell holds a bulb or sees one
unfoldable pub solves_lights : Light → List ℕ → Bool
solves_lights p g =
    all_below (black_right p g) (light_cells p)
    && (all_below (number_right p g) (light_cells p)
    && (all_below (bulb_right p g) (light_cells p)
    && all_below (lit_right p g) (light_cells p)))
