-- Which houses of Light Up wait on planes. No public contract uses these words.
use Rattle.std.specs.Prelude.{◌≡◌, ◌≢◌, ℕ, ◌+◌, ◌*◌, ◌/◌, ◌%◌, ◌<◌, ◌≤◌, Bool, true, false, ◌&&◌, ◌||◌, ◌⊎◌, nat_lt, List, ◌++◌, suc, zero}
use Rattle.fields_core.specs.Below.{AreLinesOf, Candidates, Extent, IsFurther, IsLight, Layers, Light, Touched, planes_have, has_bit, has_place}
use Rattle.fields_core.specs.CountHouse.{CountHouse, houses_below}
use Rattle.fields_core.specs.Light.{clear, light_cells, joined_in_column, white}
use Rattle.fields_core.specs.LightHouses.{column_house, light_house_at, houses_in_grid, houses_in_row, lit_house, number_house, row_house, seen_from}
use Rattle.fields_core.specs.LightPlanes.{ArePlanesOf, AreTables, numbers_of_row, row_runs_of_row}
use Rattle.fields_core.specs.LightRunLines.{column_runs_of_column}
use Rattle.fields_core.specs.Visits.{AreIdle}
use Rattle.fields_core.specs.declared.planes.light_up.light_notes.LightNotes.{LightNotes}
use Rattle.fields_core.specs.declared.planes.light_up.waits.LightWaits.{LightWaits}
use Rattle.fields_core.specs.declared.planes.light_up.waits.RunKind.{RunKind}
use Rattle.fields_core.specs.declared.planes.light_up.waits.RunKind.TheVariants.{Rows, Columns}
use Rattle.fields_core.specs.LineWords.{AreSpread}

-- ---- houses that wait by line
-- the runs of a kind at a line, how many lines there are, those lines in a grid, all of the runs, and which of them wait
abbrev pub run_houses : Light → RunKind → ℕ → List CountHouse
run_houses p Rows k = row_runs_of_row p k
run_houses p Columns k = column_runs_of_column p k

abbrev pub run_lines : Light → RunKind → ℕ
run_lines p Rows = p.size.h
run_lines p Columns = p.size.w

abbrev pub AreRunLines : {W : Type 0} → (W → ℕ) → Extent → RunKind → W → Type 0
AreRunLines bits size kind lines = (p : Light) → size ≡ p.size
    → (k : ℕ) → has_bit (bits lines) k ≡ nat_lt k (run_lines p kind)

abbrev pub all_runs : Light → RunKind → List CountHouse
all_runs p kind = houses_below (run_houses p kind) (run_lines p kind)

abbrev pub waiting_runs : {W : Type 0} → (W → ℕ) → LightWaits W → RunKind → ℕ
waiting_runs bits waits Rows = bits waits.rows
waiting_runs bits waits Columns = bits waits.columns

-- the numbers of a row in columns that are none of these are idle
abbrev pub AreIdleBut : Light → ℕ → ℕ → Candidates → Type 0
AreIdleBut p columns y K = (x : ℕ) → x < p.size.w → has_bit columns x ≡ false
    → AreIdle (light_house_at p number_house y x) K

-- none of the cells that the house of a white cell has is at both a column and a row of these lines
abbrev pub IsAway : {W : Type 0} → (W → ℕ) → Light → Touched W → ℕ → Type 0
IsAway bits p lines c = (d : ℕ) → has_place (seen_from p c) d ≡ true
    → AreLinesOf bits lines (d / p.size.w) (d % p.size.w) → ⊥

-- the cells of a column from one row to another are not all white; and those of each of some columns
abbrev pub AreParted : Light → ℕ → ℕ → ℕ → Type 0
AreParted p x y k = clear (λ j. white p (j * p.size.w + x)) y k ≡ false

abbrev pub AreColumnsParted : Light → ℕ → ℕ → ℕ → Type 0
AreColumnsParted p columns y k = (x : ℕ) → x < p.size.w → has_bit columns x ≡ true
    → AreParted p x y k

-- those of each row from one on are parted so from another
abbrev pub AreColumnsPartedFrom : Light → ℕ → ℕ → ℕ → Type 0
AreColumnsPartedFrom p columns first k = (y : ℕ) → first ≤ y → y < p.size.h
    → AreColumnsParted p columns y k

-- away are the cells of the rows that are none of those from the first on and before the end
pub record IsReach {W : Type 0} (bits : W → ℕ) (p : Light) (lines : Touched W) (first end : ℕ)
    : Type 0 where
  pub order : first ≤ end
  pub within : end ≤ p.size.h
  pub away : (y x : ℕ) → y < p.size.h → x < p.size.w → (y < first) ⊎ (end ≤ y)
      → IsAway bits p lines (y * p.size.w + x)

-- all of these houses that do not wait are idle
pub record AreLightsRested {W : Type 0} (bits : W → ℕ) (p : Light) (waits : LightWaits W)
    (K : Candidates)
    : Type 0 where
  pub numbers : (y : ℕ) → y < p.size.h → has_bit (bits waits.numbers) y ≡ false
      → AreIdle (numbers_of_row p y) K
  pub runs : (kind : RunKind) (k : ℕ) → k < run_lines p kind
      → has_bit (waiting_runs bits waits kind) k ≡ false → AreIdle (run_houses p kind k) K
  pub columns : (y : ℕ) → y < p.size.h → AreIdleBut p (bits waits.number_columns) y K
  pub whites : (c : ℕ) → c < light_cells p → IsAway bits p waits.ones c
      → AreIdle (lit_house p c) K

-- where these houses are idle, they need not wait
abbrev pub AreLightsSettled : {W : Type 0} → (W → ℕ) → (Light → ℕ → List CountHouse) → (Light → ℕ)
    → LightWaits W → LightWaits W → Type 0
AreLightsSettled bits houses number before now = (p : Light) (K : Candidates)
    → AreLightsRested bits p before K → ((k : ℕ) → k < number p → AreIdle (houses p k) K)
    → AreLightsRested bits p now K

abbrev pub AreNumbersSettled : {W : Type 0} → (W → ℕ) → ℕ → ℕ → LightWaits W → LightWaits W → Type 0
AreNumbersSettled bits room y before now = (p : Light) (K : Candidates) → p.size.h ≤ room
    → AreLightsRested bits p before K → AreIdle (numbers_of_row p y) K → AreLightsRested bits p now K

-- whatever the board, all of the houses that do not wait are idle
abbrev pub AreAlwaysRested : {W : Type 0} → (W → ℕ) → ℕ → LightWaits W → Type 0
AreAlwaysRested bits room waits = (p : Light) (K : Candidates)
    → IsLight p → p.size.w ≤ room → p.size.h ≤ room → AreLightsRested bits p waits K

-- whether one of the lines has the cell of a row and a column
abbrev pub meets_line : {W : Type 0} → (W → ℕ) → Touched W → ℕ → ℕ → Bool
meets_line bits lines y x = has_bit (bits lines.rows) y || has_bit (bits lines.columns) x

-- of some cells of a row those that one of the lines has
abbrev pub AreThoseMet : {W : Type 0} → (W → ℕ) → Touched W → ℕ → W → W → Type 0
AreThoseMet bits lines y cells met = (x : ℕ)
    → has_bit (bits met) x ≡ (has_bit (bits cells) x && meets_line bits lines y x)

-- what waits once cells of these lines have lost 0, and cells of those 1: numbers of these lines and of the lines beside
-- them, runs of the columns and rows in which cells have lost 0, and white cells of those in which cells have lost 1
pub record AreLightsWoken {W : Type 0} (bits : W → ℕ) (room : ℕ) (before : LightWaits W)
    (zeros ones : Touched W) (now : LightWaits W)
    : Type 0 where
  pub numbers : AreSpread bits room before.numbers
      (λ k. has_bit (bits zeros.rows) k || has_bit (bits ones.rows) k) now.numbers
  pub number_columns : AreSpread bits room before.number_columns
      (λ k. has_bit (bits zeros.columns) k || has_bit (bits ones.columns) k) now.number_columns
  pub rows_are : (k : ℕ) → has_bit (bits now.rows) k
      ≡ (has_bit (bits before.rows) k || has_bit (bits zeros.rows) k)
  pub columns_are : (k : ℕ) → has_bit (bits now.columns) k
      ≡ (has_bit (bits before.columns) k || has_bit (bits zeros.columns) k)
  pub one_rows : (k : ℕ) → has_bit (bits now.ones.rows) k
      ≡ (has_bit (bits before.ones.rows) k || has_bit (bits ones.rows) k)
  pub one_columns : (k : ℕ) → has_bit (bits now.ones.columns) k
      ≡ (has_bit (bits before.ones.columns) k || has_bit (bits ones.columns) k)

-- what waits once values were taken since the trail had that length
abbrev pub AreLightsWokenSince : {W : Type 0} → (W → ℕ) → ℕ → ℕ → Layers → LightWaits W
    → LightWaits W → Type 0
AreLightsWokenSince bits room len planes before now = (p : Light) (from : Layers)
    → ArePlanesOf room p planes → ArePlanesOf room p from → from.len ≡ len
    → IsFurther from planes → AreLightsRested bits p before (planes_have from)
    → AreLightsRested bits p now (planes_have planes)

-- planes of a puzzle, with its words; what does not wait is idle
pub record AreLightsReady {W : Type 0} (bits : W → ℕ) (room : ℕ) (p : Light) (planes : Layers)
    (notes : LightNotes W)
    : Type 0 where
  pub planes_of : ArePlanesOf room p planes
  pub tables : AreTables bits p notes.tables
  pub rested : AreLightsRested bits p notes.waits (planes_have planes)

-- ---- white cells
-- those of the white cells of a row are idle that are none of these
abbrev pub AreWhitesIdleBut : Light → ℕ → ℕ → Candidates → Type 0
AreWhitesIdleBut p some y K = (x : ℕ) → x < p.size.w → has_bit some x ≡ false
    → AreIdle (light_house_at p lit_house y x) K

-- two of these cells can have a bulb, or one of them must
pub record AreSafe (cells : ℕ → Bool) (K : Candidates) : Type 0 where
  pub one : ℕ
  pub other : ℕ
  pub one_in : cells one ≡ true
  pub other_in : cells other ≡ true
  pub one_on : K one 1 ≡ true
  pub other_on : K other 1 ≡ true
  pub apart : (one ≢ other) ⊎ (K one 0 ≡ false)

-- that is so of the column runs of these cells of a row
abbrev pub AreSafeInColumns : Light → ℕ → ℕ → Candidates → Type 0
AreSafeInColumns p y bits K = (x : ℕ) → has_bit bits x ≡ true
    → AreSafe (joined_in_column p (y * p.size.w + x)) K

-- what two words say of the cells of a line: those that can have 0, and those that can have 1
abbrev pub line_board : ℕ → ℕ → Candidates
line_board empties bulbs k zero = has_bit empties k
line_board empties bulbs k (suc v) = has_bit bulbs k

-- the houses of the white cells of a row
abbrev pub lits_of_row : Light → ℕ → List CountHouse
lits_of_row p = houses_in_row p lit_house

-- the houses of runs and of white cells
abbrev pub white_houses : Light → List CountHouse
white_houses p = (houses_in_grid p row_house ++ houses_in_grid p column_house) ++ houses_in_grid p lit_house
