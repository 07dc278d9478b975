-- The rules of Tents: which grids are solutions. The place of the cell in column x and row y is y * w + x; a grid has 1 at
-- a tent and 0 elsewhere.
use Rattle.std.specs.Prelude.{ℕ, ◌+◌, ◌*◌, ◌/◌, ◌%◌, Bool, true, not, ◌&&◌, ◌||◌, ◌==◌, nat_le, List, [], ◌∷◌, map, filter, slice_index, count_by}
use Rattle.fields_core.specs.Below.{Extent, Set, Tents, all_below, any_below, beside, column_places, has_place, range_with_len, row_places, some_filling}

abbrev pub tent_cells : Tents → ℕ
tent_cells p = p.size.w * p.size.h

-- a tree stands on the cell
abbrev pub tree : Tents → ℕ → Bool
tree p c = slice_index p.trees c == 1

-- a tent stands on the cell
abbrev pub tent : List ℕ → ℕ → Bool
tent g c = slice_index g c == 1

-- two numbers that differ by one at most
abbrev pub are_near : ℕ → ℕ → Bool
are_near a b = nat_le a (b + 1) && nat_le b (a + 1)

-- two cells share a side or a corner
unfoldable pub touches : Extent → ℕ → ℕ → Bool
touches size a b =
    not (a == b) && (are_near (a / size.w) (b / size.w) && are_near (a % size.w) (b % size.w))

-- how many tents stand in a column and in a row
abbrev pub tents_in_column : Extent → List ℕ → ℕ → ℕ
tents_in_column size g x = count_by (tent g) (column_places size x)

abbrev pub tents_in_row : Extent → List ℕ → ℕ → ℕ
tents_in_row size g y = count_by (tent g) (row_places size y)

-- no tent stands on a tree; no two tents touch; each column and each row has its number of tents
unfoldable pub tree_right : Tents → List ℕ → ℕ → Bool
tree_right p g c = not (tree p c) || (slice_index g c == 0)

unfoldable pub touch_right : Tents → List ℕ → ℕ → Bool
touch_right p g c = not (tent g c && any_below (λ d. touches p.size c d && tent g d) (tent_cells p))

unfoldable pub column_right : Tents → List ℕ → ℕ → Bool
column_right p g x = tents_in_column p.size g x == slice_index p.counts x

unfoldable pub row_right : Tents → List ℕ → ℕ → Bool
row_right p g y = tents_in_row p.size g y == slice_index p.counts (p.size.w + y)

-- no number stands twice in a list
abbrev pub names_none_twice : List ℕ → Bool
names_none_twice [] = true
names_none_twice (x ∷ xs) = not (has_place xs x) && names_none_twice xs

-- each tree stands in the list
abbrev pub leaves_none_out : Tents → List ℕ → Bool
leaves_none_out p chosen = all_below (λ c. not (tree p c) || has_place chosen c) (tent_cells p)

-- the trees beside a cell, as whether each cell is one
abbrev pub trees_beside : Tents → ℕ → Set
trees_beside p c =
    map (λ d. tree p d && has_place (beside p.size c) d) (range_with_len 0 (tent_cells p))

-- some list gives each tent a tree beside it, names no tree twice and leaves none out
unfoldable pub can_be_paired : Tents → List ℕ → Bool
can_be_paired p g =
    some_filling (map (trees_beside p) (filter (tent g) (range_with_len 0 (tent_cells p))))
    (λ chosen. names_none_twice chosen && leaves_none_out p chosen)

unfoldable pub solves_tents : Tents → List ℕ → Bool
solves_tents p g =
    all_below (tree_right p g) (tent_cells p)
    && (all_below (touch_right p g) (tent_cells p)
    && (all_below (column_right p g) p.size.w
    && (all_below (row_right p g) p.size.h
    && can_be_paired p g)))
