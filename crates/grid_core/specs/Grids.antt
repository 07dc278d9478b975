-- Grids as lists of numbers, one for each cell, and their lines.
-- The place of the cell in column x and row y is y * w + x.
use Rattle.std.specs.Prelude.{◌≡◌, ℕ, ◌+◌, ◌*◌, ◌<◌, List, All, length, map, slice_index}
use Rattle.std.specs.List.{range_with_len}
use Rattle.grid_core.specs.Extent.{Extent}

-- a list of that many numbers, each below `values`
pub record IsGrid (cells values : ℕ) (g : List ℕ) : Type 0 where
  pub each_cell : length g ≡ cells
  pub each_value : All (λ v. v < values) g

-- the numbers of a row from the left, and of a column from the top
abbrev pub row_cells : Extent → List ℕ → ℕ → List ℕ
row_cells size g y = map (λ x. slice_index g (y * size.w + x)) (range_with_len 0 size.w)

abbrev pub column_cells : Extent → List ℕ → ℕ → List ℕ
column_cells size g x = map (λ y. slice_index g (y * size.w + x)) (range_with_len 0 size.h)
