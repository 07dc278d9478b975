-- Lines of a board on planes: what a visit of one reads and leaves, and which lines wait. No public contract uses these words.
use Rattle.pattern_core.specs.Below.{Extent, IsAlive, IsDead, IsIdle, IsTaken, Layers, Pattern, RuleSystem, after, from_bool, planes_have, has_bit, lines_beside, number_of, range_with_len}
use Rattle.std.specs.Prelude.{◌≡◌, ℕ, map, ◌+◌, ◌-◌, ◌*◌, ◌<◌, ◌≤◌, Bool, true, false, not, ◌&&◌, ◌||◌, ◌==◌, nat_lt, if◌then◌else◌, List, length, slice_index, Option, Some, None}
use Rattle.grid_core.specs.Candidates.{Candidates, IsWithin as HasCells}
use Rattle.grid_core.specs.declared.planes.line.Line.{Line}
use Rattle.grid_core.specs.declared.planes.line.Line.TheVariants.{Row, Column}
use Rattle.engine_core.specs.Queue.{IsRested, counts_of}
use Rattle.engine_core.specs.declared.mode.Closing.{Closing}
use Rattle.pattern_core.specs.LineRules.{line_rules}
use Rattle.pattern_core.specs.Lines.{IsDecidedBy}
use Rattle.pattern_core.specs.Track.{AreRowsKept, Track}
use Rattle.pattern_core.specs.declared.planes.filter.Cells.{Cells}
use Rattle.pattern_core.specs.declared.planes.waits.LinesWaiting.{LinesWaiting}

-- ---- lines
-- the number of a line as a house: the columns come first
abbrev pub line_house : Extent → Line → ℕ
line_house size (Column x) = x
line_house size (Row y) = size.w + y

abbrev pub is_same : Line → Line → Bool
is_same (Column x) (Column z) = z == x
is_same (Column x) (Row y) = false
is_same (Row y) (Column x) = false
is_same (Row y) (Row z) = z == y

-- whether the second line crosses the first at one of these cells
abbrev pub crossed_by : Line → ℕ → Line → Bool
crossed_by (Column x) cells (Column z) = false
crossed_by (Column x) cells (Row y) = has_bit cells y
crossed_by (Row y) cells (Column x) = has_bit cells x
crossed_by (Row y) cells (Row z) = false

-- ---- which lines wait
abbrev pub is_marked : {W : Type 0} → (W → ℕ) → LinesWaiting W → Line → Bool
is_marked bits waits (Column x) = has_bit (bits waits.columns) x
is_marked bits waits (Row y) = has_bit (bits waits.rows) y

-- the lines that pass wait too
abbrev pub AreLinesMarked : {W : Type 0} → (W → ℕ) → LinesWaiting W → (Line → Bool) → LinesWaiting W → Type 0
AreLinesMarked bits before passes now =
    (other : Line) → is_marked bits now other ≡ (is_marked bits before other || passes other)

-- the line with that number as a house
abbrev pub line_of : Extent → ℕ → Line
line_of size j = if nat_lt j size.w then Column j else Row (j - size.w)

unfoldable pub waiting : {W : Type 0} → (W → ℕ) → Extent → LinesWaiting W → ℕ → Bool
waiting bits size waits j = is_marked bits waits (line_of size j)

-- the line waits, or no line does
abbrev pub IsNextLine : {W : Type 0} → ℕ → (W → ℕ) → LinesWaiting W → Option Line → Type 0
IsNextLine room bits waits None = (line : Line) → number_of line < room → is_marked bits waits line ≡ false
IsNextLine room bits waits (Some line) = (is_marked bits waits line ≡ true) × (number_of line < room)

-- ---- the cells of a line, by the words of those that can be white and of those that can be black
-- the set of a cell, and those of so many cells
abbrev pub set_at : ℕ → ℕ → ℕ → ℕ
set_at white black k = from_bool (has_bit white k) + 2 * from_bool (has_bit black k)

abbrev pub sets_by : ℕ → ℕ → ℕ → List ℕ
sets_by white black count = map (set_at white black) (range_with_len 0 count)

abbrev pub sets_in : {W : Type 0} → (W → ℕ) → Cells W → ℕ → List ℕ
sets_in bits cells count = sets_by (bits cells.white) (bits cells.black) count

-- the places, and that one too where `on`
abbrev pub IsWithIf : {W : Type 0} → (W → ℕ) → W → ℕ → Bool → W → Type 0
IsWithIf bits places place on result =
    (p : ℕ) → has_bit (bits result) p ≡ (has_bit (bits places) p || (on && (p == place)))

-- each set has these two values at most
abbrev pub AreSmall : List ℕ → Type 0
AreSmall sets = (k : ℕ) → k < length sets → slice_index sets k < 4

-- of so many cells the second words keep what some filling that leads along the track shows; and what some filling with
-- the clue's runs has
abbrev pub AreCellsShown : {W : Type 0} → (W → ℕ) → Track → ℕ → Cells W → Cells W → Type 0
AreCellsShown bits t count cells kept =
    AreRowsKept t (sets_in bits cells count) (sets_in bits kept count)

abbrev pub AreCellsDecided : {W : Type 0} → (W → ℕ) → List ℕ → ℕ → Cells W → Cells W → Type 0
AreCellsDecided bits clue count cells kept =
    IsDecidedBy clue (sets_in bits cells count) (sets_in bits kept count)

-- ---- a visit of a line
-- the k-th cell of the house has another number of values than before
unfoldable pub has_lost : RuleSystem → ℕ → Candidates → Candidates → ℕ → Bool
has_lost p h K K' k =
    nat_lt k (length (p.scope h)) && not (counts_of p h K k == counts_of p h K' k)

-- these cells of the house lost a value, and each cell has one still; or one would lose its last
abbrev pub IsLineVisited : {W : Type 0} → (W → ℕ) → RuleSystem → ℕ → Candidates → Candidates → Option W → Type 0
IsLineVisited bits p h K K' None = IsDead p (after p h K)
IsLineVisited bits p h K K' (Some lost) = (K' ≡ after p h K) × IsAlive p K'
    × ((k : ℕ) → has_bit (bits lost) k ≡ has_lost p h K K' k)

-- a visit of that line of the puzzle
abbrev pub IsVisitOf : {W : Type 0} → (W → ℕ) → Pattern → Line → Layers → Layers → Option W → Type 0
IsVisitOf bits p line from to lost =
    IsLineVisited bits (line_rules p) (line_house p.size line) (planes_have from) (planes_have to) lost

-- ---- where a closing begins
-- a line that does not wait strikes nothing from the board
abbrev pub AreLinesRested : {W : Type 0} → (W → ℕ) → Pattern → Candidates → LinesWaiting W → Type 0
AreLinesRested bits p K waits = IsRested (line_rules p) K (waiting bits p.size waits)

-- only lines of the grid wait
abbrev pub AreLinesWithin : {W : Type 0} → (W → ℕ) → Extent → LinesWaiting W → Type 0
AreLinesWithin bits size waits = (line : Line) → is_marked bits waits line ≡ true → number_of line < lines_beside size line

-- the line strikes nothing from the board that a search starts from
abbrev pub IsIdleAtStart : Pattern → ℕ → Type 0
IsIdleAtStart p line = IsIdle (line_rules p) line (line_rules p).start

-- both, at the board that a search starts from
abbrev pub IsStart : {W : Type 0} → (W → ℕ) → Pattern → LinesWaiting W → Type 0
IsStart bits p waits = AreLinesRested bits p (line_rules p).start waits × AreLinesWithin bits p.size waits

-- no side is longer than a word, and the board has no other cells and values than the puzzle's
pub record HasLineRoom (room : ℕ) (p : Pattern) (K : Candidates) : Type 0 where
  pub narrow : p.size.w ≤ room
  pub low : p.size.h ≤ room
  pub cells : HasCells (p.size.w * p.size.h) 2 K

-- a closing of the puzzle's board, from planes to planes
abbrev pub IsClosedTo : Pattern → Layers → Layers → Closing → Type 0
IsClosedTo p from to closing = IsTaken (line_rules p) (planes_have from) (planes_have to) closing
