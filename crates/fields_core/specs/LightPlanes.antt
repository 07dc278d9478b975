-- Light Up on planes: runs of white cells as words of bits, and the words of a puzzle beside planes.
use Rattle.std.specs.Prelude.{Bool, List, false, length, map, nat_lt, slice_index, slice_index_or, true, ℕ, ◌%◌, ◌&&◌, ◌*◌, ◌+◌, ◌/◌, ◌<◌, ◌≡◌, ◌≤◌}
use Rattle.fields_core.specs.Below.{Black, IsLight, Layers, Light, LightCell, Numbered, White, has_bit}
use Rattle.fields_core.specs.CountHouse.{CountHouse}
use Rattle.fields_core.specs.Light.{joined_in_column, joined_in_row, light_cells, white}
use Rattle.fields_core.specs.LightHouses.{houses_in_row, number_house, row_house}
use Rattle.fields_core.specs.LineWords.{AreColumnsOf, AreRowsOf}
use Rattle.fields_core.specs.Parts.{ArePlanesAlive}
use Rattle.fields_core.specs.declared.planes.light_up.light_notes.LightNotes.{LightNotes}
use Rattle.fields_core.specs.declared.planes.light_up.tables.LightTables.{LightTables}

-- Runs of white cells of Light Up as words of bits.

-- the bits are the places along its row of the run that the cell is in: none where the cell is black; and along its column
abbrev pub IsRowRun : Light → ℕ → ℕ → Type 0
IsRowRun p c bits = (x : ℕ) → has_bit bits x
    ≡ (nat_lt x p.size.w && joined_in_row p c (c / p.size.w * p.size.w + x))

abbrev pub IsColumnRun : Light → ℕ → ℕ → Type 0
IsColumnRun p c bits = (y : ℕ) → has_bit bits y
    ≡ (nat_lt y p.size.h && joined_in_column p c (y * p.size.w + c % p.size.w))

-- tables of the runs of each cell
pub record AreRunWords (p : Light) (rows columns : List ℕ) : Type 0 where
  pub long_rows : light_cells p ≤ length rows
  pub long_columns : light_cells p ≤ length columns
  pub in_row : (c : ℕ) → c < light_cells p → IsRowRun p c (slice_index rows c)
  pub in_column : (c : ℕ) → c < light_cells p → IsColumnRun p c (slice_index columns c)

-- the houses of the numbers of a row, and of its runs
abbrev pub numbers_of_row : Light → ℕ → List CountHouse
numbers_of_row p = houses_in_row p number_house

abbrev pub row_runs_of_row : Light → ℕ → List CountHouse
row_runs_of_row p = houses_in_row p row_house

abbrev pub has_number : LightCell → Bool
has_number White = false
has_number Black = false
has_number (Numbered n) = true

-- the cell is black and has a number
unfoldable pub is_numbered : Light → ℕ → Bool
is_numbered p c = has_number (slice_index_or p.cells c Black)

-- Planes of Light Up, and the words of a puzzle beside them.

-- there are words for so many cells, and for so many lines
pub record HasTables {W : Type 0} (cells lines : ℕ) (t : LightTables W) : Type 0 where
  pub rows : lines ≤ length t.rows.items
  pub columns : lines ≤ length t.columns.items
  pub numbers : lines ≤ length t.numbers.items
  pub row_runs : cells ≤ length t.row_runs.items
  pub column_runs : cells ≤ length t.column_runs.items

-- the words of the rows are those of the puzzle
pub record AreRowTables {W : Type 0} (bits : W → ℕ) (p : Light) (t : LightTables W) : Type 0 where
  pub rows : AreRowsOf p.size (white p) (map bits t.rows.items)
  pub numbers : AreRowsOf p.size (is_numbered p) (map bits t.numbers.items)
  pub runs : (c : ℕ) → c < light_cells p → IsRowRun p c (slice_index (map bits t.row_runs.items) c)

-- the words are those of the puzzle
pub record AreTables {W : Type 0} (bits : W → ℕ) (p : Light) (t : LightTables W) : Type 0 where
  pub runs : AreRunWords p (map bits t.row_runs.items) (map bits t.column_runs.items)
  pub rows : AreRowsOf p.size (white p) (map bits t.rows.items)
  pub columns : AreColumnsOf p.size (white p) (map bits t.columns.items)
  pub numbers : AreRowsOf p.size (is_numbered p) (map bits t.numbers.items)

-- and the puzzle is lawful
pub record AreLightsWritten {W : Type 0} (bits : W → ℕ) (p : Light) (notes : LightNotes W) : Type 0 where
  pub lawful : IsLight p
  pub tables : AreTables bits p notes.tables

-- planes of the puzzle on words of so many places, in which each cell has a value
pub record ArePlanesOf (room : ℕ) (p : Light) (planes : Layers) : Type 0 where
  pub lawful : IsLight p
  pub narrow : p.size.w ≤ room
  pub low : p.size.h ≤ room
  pub size : planes.size ≡ p.size
  pub alive : ArePlanesAlive planes
