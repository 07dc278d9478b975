-- The lines of a grid: the runs of their black cells, and what is counted of them.
use Rattle.std.specs.Prelude.{List, [], length, map, slice_index, slice_index_or, suc, zero, ℕ, ◌++◌, ◌+◌, ◌<◌, ◌==◌, ◌∷◌, ◌≡◌}
use Rattle.std.specs.List.{filter, range_with_len}
use Rattle.grid_core.specs.Extent.{Extent}
use Rattle.grid_core.specs.Grids.{column_cells, row_cells}
use Rattle.grid_core.specs.Lines.{line_numbers, lines_of}

-- The lengths of the maximal black runs of a line, whose cells are 0 for white and 1 for black.

-- a run of that many cells, unless there are none
abbrev pub run_of : ℕ → List ℕ
run_of zero = []
run_of (suc k) = suc k ∷ []

-- the runs of the cells, with k black cells directly before them
unfoldable pub runs_after : ℕ → List ℕ → List ℕ
runs_after k [] = run_of k
runs_after k (zero ∷ cells) = run_of k ++ runs_after 0 cells
runs_after k (suc _ ∷ cells) = runs_after (suc k) cells

abbrev pub runs : List ℕ → List ℕ
runs cells = runs_after 0 cells

-- What is counted of a grid's lines.

-- how many of the cells are 1
abbrev pub ones : List ℕ → ℕ
ones cells = length (filter (λ v. v == 1) cells)

-- the runs of each line
abbrev pub lines_runs : Extent → List ℕ → List (List ℕ)
lines_runs size g = map (λ line. runs (line_numbers size g line)) (range_with_len 0 (lines_of size))

-- the ones of each line
abbrev pub lines_ones : Extent → List ℕ → List ℕ
lines_ones size g = map (λ line. ones (line_numbers size g line)) (range_with_len 0 (lines_of size))

-- the first clues are of the columns, and the others of the rows
abbrev pub AreColumnRuns : Extent → List ℕ → List (List ℕ) → Type 0
AreColumnRuns size g clues = (x : ℕ) → x < size.w → slice_index_or clues x [] ≡ runs (column_cells size g x)

abbrev pub AreRowRuns : Extent → List ℕ → List (List ℕ) → Type 0
AreRowRuns size g clues = (y : ℕ) → y < size.h → slice_index_or clues (size.w + y) [] ≡ runs (row_cells size g y)

-- the same of numbers of cells that are 1
abbrev pub AreColumnOnes : Extent → List ℕ → List ℕ → Type 0
AreColumnOnes size g counts = (x : ℕ) → x < size.w → slice_index counts x ≡ ones (column_cells size g x)

abbrev pub AreRowOnes : Extent → List ℕ → List ℕ → Type 0
AreRowOnes size g counts = (y : ℕ) → y < size.h → slice_index counts (size.w + y) ≡ ones (row_cells size g y)
