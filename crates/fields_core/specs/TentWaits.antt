-- Which houses of Tents wait on planes, and what is kept beside these. No public contract uses these words.
use Rattle.std.specs.Prelude.{Bool, List, [], false, map, nat_lt, true, ℕ, ◌&&◌, ◌++◌, ◌+◌, ◌<◌, ◌||◌, ◌≡◌, ◌≤◌}
use Rattle.fields_core.specs.Below.{Candidates, Extent, IsTents, Layers, Tents, Touched, planes_have, has_bit}
use Rattle.fields_core.specs.CountHouse.{CountHouse, houses_below}
use Rattle.fields_core.specs.Parts.{ArePlanesAlive}
use Rattle.fields_core.specs.TentHouses.{column_of_tents, row_of_tents}
use Rattle.fields_core.specs.TentTrees.{AreBare, squares_of_row, trees_of_row, wants_tent}
use Rattle.fields_core.specs.Visits.{AreIdle, AreVisited}
use Rattle.fields_core.specs.declared.planes.tents.waits.Kind.{Kind}
use Rattle.fields_core.specs.declared.planes.tents.waits.Kind.TheVariants.{Columns, Rows, Squares, Trees}
use Rattle.fields_core.specs.declared.planes.tents.waits.TentWaits.{TentWaits}
use Rattle.fields_core.specs.LineWords.{AreRowsOf, AreSpread}
use Rattle.fields_core.specs.declared.planes.tents.tent_notes.TentNotes.{TentNotes}

-- Which houses wait.

-- the houses of a kind at a line, how many lines there are, all of them, and which wait
abbrev pub kind_houses : Tents → Kind → ℕ → List CountHouse
kind_houses p Columns k = column_of_tents p k
kind_houses p Rows k = row_of_tents p k
kind_houses p Trees k = trees_of_row p k
kind_houses p Squares k = squares_of_row p k

abbrev pub kind_lines : Tents → Kind → ℕ
kind_lines p Columns = p.size.w
kind_lines p Rows = p.size.h
kind_lines p Trees = p.size.h
kind_lines p Squares = p.size.h

abbrev pub all_of_kind : Tents → Kind → List CountHouse
all_of_kind p kind = houses_below (kind_houses p kind) (kind_lines p kind)

-- and all of the kinds that come later
abbrev pub later_kinds : Tents → Kind → List CountHouse
later_kinds p Columns = all_of_kind p Rows ++ (all_of_kind p Trees ++ all_of_kind p Squares)
later_kinds p Rows = all_of_kind p Trees ++ all_of_kind p Squares
later_kinds p Trees = all_of_kind p Squares
later_kinds p Squares = []

-- visits of houses of a kind took the planes from the first to the second; or these visits, others of whatever houses, and
-- those of the later kinds leave a cell without a value
pub record AreVisitedOrDoomed (p : Tents) (kind : Kind) (houses : List CountHouse)
    (from to : Layers) (fills : Bool)
    : Type 0 where
  pub left : fills ≡ true → AreVisited houses from to true
  pub dies : fills ≡ false → (others : List CountHouse)
      → AreVisited (houses ++ (others ++ later_kinds p kind)) from to false

abbrev pub waits_of : {W : Type 0} → (W → ℕ) → TentWaits W → Kind → ℕ
waits_of bits waits Columns = bits waits.columns
waits_of bits waits Rows = bits waits.rows
waits_of bits waits Trees = bits waits.trees
waits_of bits waits Squares = bits waits.squares

-- the lines of a grid at which houses of the kind wait
abbrev pub AreWaitingLines : {W : Type 0} → (W → ℕ) → Extent → TentWaits W → Kind → W → Type 0
AreWaitingLines bits size waits kind lines = (p : Tents) → size ≡ p.size → (k : ℕ)
    → has_bit (bits lines) k ≡ (has_bit (waits_of bits waits kind) k && nat_lt k (kind_lines p kind))

-- all houses that do not wait are idle
abbrev pub AreTentsRested : {W : Type 0} → (W → ℕ) → Tents → TentWaits W → Candidates → Type 0
AreTentsRested bits p waits K = (kind : Kind) (k : ℕ) → k < kind_lines p kind
    → has_bit (waits_of bits waits kind) k ≡ false → AreIdle (kind_houses p kind k) K

-- where the houses of the kind are idle, they need not wait
abbrev pub AreTentsSettled : {W : Type 0} → (W → ℕ) → Kind → TentWaits W → TentWaits W → Type 0
AreTentsSettled bits kind before now = (p : Tents) (K : Candidates)
    → AreTentsRested bits p before K
    → ((k : ℕ) → k < kind_lines p kind → AreIdle (kind_houses p kind k) K)
    → AreTentsRested bits p now K

-- what waits once cells of these lines have lost 0, and cells of those 1: the lines of both, the trees of the rows that
-- have lost 1 and of the rows beside these, and the squares of the rows that have lost 0
pub record AreTentsWoken {W : Type 0} (bits : W → ℕ) (room : ℕ) (before : TentWaits W)
    (zeros ones : Touched W) (now : TentWaits W)
    : Type 0 where
  pub columns : (k : ℕ) → has_bit (bits now.columns) k
      ≡ (has_bit (bits before.columns) k
      || (has_bit (bits zeros.columns) k || has_bit (bits ones.columns) k))
  pub rows : (k : ℕ) → has_bit (bits now.rows) k
      ≡ (has_bit (bits before.rows) k
      || (has_bit (bits zeros.rows) k || has_bit (bits ones.rows) k))
  pub trees : AreSpread bits room before.trees (has_bit (bits ones.rows)) now.trees
  pub squares : (k : ℕ) → has_bit (bits now.squares) k
      ≡ (has_bit (bits before.squares) k
      || (has_bit (bits zeros.rows) k || has_bit (bits zeros.rows) (k + 1)))

-- What is kept beside planes.

-- planes of the puzzle on words of so many places, in which each cell has a value, and the trees of each row that want a tent
pub record IsFieldOf (room : ℕ) (p : Tents) (planes : Layers) (words : List ℕ) : Type 0 where
  pub lawful : IsTents p
  pub narrow : p.size.w ≤ room
  pub low : p.size.h ≤ room
  pub size : planes.size ≡ p.size
  pub trees : AreRowsOf p.size (wants_tent p) words
  pub bare : AreBare p (planes_have planes)
  pub alive : ArePlanesAlive planes

-- a visit of the houses of the trees of a row, of any puzzle with these planes and words
abbrev pub AreTreesVisited : ℕ → List ℕ → ℕ → Layers → Layers → Bool → Type 0
AreTreesVisited room words y from to fills = (p : Tents) → IsFieldOf room p from words
    → AreVisited (trees_of_row p y) from to fills

-- the words are the trees of the puzzle that want a tent
pub record AreTentsWritten {W : Type 0} (bits : W → ℕ) (p : Tents) (notes : TentNotes W) : Type 0 where
  pub lawful : IsTents p
  pub trees : AreRowsOf p.size (wants_tent p) (map bits notes.trees.items)

-- planes of a puzzle, with its trees; what does not wait is idle
pub record AreTentsReady {W : Type 0} (bits : W → ℕ) (room : ℕ) (p : Tents) (planes : Layers) (notes : TentNotes W) : Type 0 where
  pub field : IsFieldOf room p planes (map bits notes.trees.items)
  pub rested : AreTentsRested bits p notes.waits (planes_have planes)
