-- The lines of a grid: the columns from the left, and then the rows from the top.
use Rattle.std.specs.Prelude.{ℕ, ◌+◌, ◌-◌, List, nat_lt, if◌then◌else◌}
use Rattle.grid_core.specs.Extent.{Extent}
use Rattle.grid_core.specs.Grids.{row_cells, column_cells}
use Rattle.grid_core.specs.Regions.{row_places, column_places}

-- how many there are
abbrev pub lines_of : Extent → ℕ
lines_of size = size.w + size.h

-- how many cells a line has
abbrev pub line_cells : Extent → ℕ → ℕ
line_cells size line = if nat_lt line size.w then size.h else size.w

-- the places of a line's cells, from the top or from the left
unfoldable pub line_places : Extent → ℕ → List ℕ
line_places size line =
    if nat_lt line size.w then column_places size line else row_places size (line - size.w)

-- the numbers of a line's cells
unfoldable pub line_numbers : Extent → List ℕ → ℕ → List ℕ
line_numbers size g line =
    if nat_lt line size.w then column_cells size g line else row_cells size g (line - size.w)
