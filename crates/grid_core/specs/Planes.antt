-- Boards of two values as planes of bits: for each value the cells that can have it, as a word for each row and one for each
-- column. The words of line k for the values 0 and 1 are those with the numbers 2 * k and 2 * k + 1.
use Rattle.std.specs.Prelude.{◌≡◌, ℕ, ◌+◌, ◌*◌, ◌/◌, ◌%◌, ◌<◌, ◌≤◌, Bool, true, false, not, ◌&&◌, ◌==◌, nat_lt, List, length, map, slice_index, slice_index_or}
use Rattle.std.specs.Global.{Vec}
use Rattle.grid_core.specs.Candidates.{Candidates, IsInside, put_back, total}
use Rattle.grid_core.specs.Extent.{Extent, IsExtent}
use Rattle.grid_core.specs.Words.{has_bit, differ}
use Rattle.grid_core.specs.declared.planes.line.Line.{Line}
use Rattle.grid_core.specs.declared.planes.line.Line.TheVariants.{Row, Column}
use Rattle.grid_core.specs.declared.planes.line.Change.{Change}
use Rattle.grid_core.specs.declared.planes.touched_lines.Touched.{Touched}

-- whether a line's word of the value has the place
unfoldable pub bit_of : List ℕ → ℕ → ℕ → ℕ → Bool
bit_of words line value place = has_bit (slice_index words (2 * line + value)) place

-- a value taken from cells of a line, as bits
pub record Taking : Type 0 where
  pub line : Line
  pub value : ℕ
  pub bits : ℕ

-- the same by a word, and as it is noted
abbrev pub taking : {W : Type 0} → (W → ℕ) → Line → ℕ → W → Taking
taking bits line value word = record { line = line; value = value; bits = bits word }

abbrev pub taking_of : {W : Type 0} → (W → ℕ) → Change W → Taking
taking_of bits change = taking bits change.line change.value change.bits

abbrev pub no_taking : Taking
no_taking = record { line = Row 0; value = 0; bits = 0 }

-- whether a line has the cell of a row and a column among those of its places
unfoldable pub crosses : Line → ℕ → ℕ → ℕ → Bool
crosses (Row k) bits y x = (y == k) && has_bit bits x
crosses (Column k) bits y x = (x == k) && has_bit bits y

-- whether it is taken from the cell, in a grid of so many columns
unfoldable pub covers : ℕ → Taking → ℕ → ℕ → Bool
covers w t c v = (v == t.value) && crosses t.line t.bits (c / w) (c % w)

-- the board without what is taken
unfoldable pub without_taking : ℕ → Candidates → Taking → Candidates
without_taking w K t c v = K c v && not (covers w t c v)

-- the board with what is taken turned over: put back, where it is gone
unfoldable pub turned_by : ℕ → Candidates → Taking → Candidates
turned_by w K t c v = differ (K c v) (covers w t c v)

-- what callers see of planes: their words, and what was taken, the first `len` of the list
pub record Layers : Type 0 where
  pub size : Extent
  pub rows : List ℕ
  pub columns : List ℕ
  pub takings : List Taking
  pub len : ℕ

-- whether the cell can have the value
unfoldable pub planes_have : Layers → Candidates
planes_have p c v = nat_lt v 2 && bit_of p.rows (c / p.size.w) v (c % p.size.w)

-- the board of planes without what is taken
abbrev pub has_without : Layers → Taking → Candidates
has_without p t = without_taking p.size.w (planes_have p) t

abbrev pub plane_cells : Layers → ℕ
plane_cells p = p.size.w * p.size.h

abbrev pub taking_at : List Taking → ℕ → Taking
taking_at takings k = slice_index_or takings k no_taking

-- the board when the first m of these n were taken, and no more
abbrev pub with_first : ℕ → Candidates → List Taking → ℕ → ℕ → Candidates
with_first w K takings m n = put_back (turned_by w) no_taking K takings m n

-- the board when the trail had length n
abbrev pub back_at : Layers → ℕ → Candidates
back_at p n = with_first p.size.w (planes_have p) p.takings n p.len

-- a line of the grid, with places in its crossing lines alone
abbrev pub IsLineIn : Extent → Line → ℕ → Type 0
IsLineIn size (Row y) bits = (y < size.h) × ((x : ℕ) → has_bit bits x ≡ true → x < size.w)
IsLineIn size (Column x) bits = (x < size.w) × ((y : ℕ) → has_bit bits y ≡ true → y < size.h)

pub record IsTakingIn (size : Extent) (t : Taking) : Type 0 where
  pub line_in : IsLineIn size t.line t.bits
  pub value_in : t.value < 2

-- no word has a place outside of the grid, and rows and columns say the same
pub record AreWords (size : Extent) (rows columns : List ℕ) : Type 0 where
  pub within : (y x v : ℕ) → v < 2 → bit_of rows y v x ≡ true → (y < size.h) × (x < size.w)
  pub agree : (y x v : ℕ) → v < 2 → bit_of rows y v x ≡ bit_of columns x v y

-- what is taken is of the grid, was there, and there is room for as much as can be
pub record AreTakings (size : Extent) (K : Candidates) (takings : List Taking) (len : ℕ) : Type 0 where
  pub long : size.w * size.h * 2 ≤ length takings
  pub takings_in : (k : ℕ) → k < len → IsTakingIn size (taking_at takings k)
  pub room : (n : ℕ) → n ≤ len
      → total (size.w * size.h) 2 (with_first size.w K takings n len) + n ≤ length takings
  pub falls : (m n : ℕ) → m ≤ n → n ≤ len
      → IsInside (with_first size.w K takings n len) (with_first size.w K takings m len)

-- words that hold a line, of a grid of a lawful size, with their trail: two for each line that such words can have
pub record ArePlanes (room : ℕ) (p : Layers) : Type 0 where
  pub lawful : IsExtent p.size
  pub narrow : p.size.w ≤ room
  pub low : p.size.h ≤ room
  pub tall : length p.rows ≡ 2 * room
  pub wide : length p.columns ≡ 2 * room
  pub words : AreWords p.size p.rows p.columns
  pub takings : AreTakings p.size (planes_have p) p.takings p.len

-- planes of a grid of this size, with this board and nothing taken
pub record IsFresh (size : Extent) (K : Candidates) (p : Layers) : Type 0 where
  pub same_size : p.size ≡ size
  pub holds : planes_have p ≡ K
  pub none : p.len ≡ 0

-- the second board lacks a value of the first
abbrev pub HasLost : Candidates → Candidates → Type 0
HasLost K L = (c : ℕ) × (v : ℕ) × (K c v ≡ true) × (L c v ≡ false)

-- values were taken, and are noted: the trail is longer where some were, and each shorter trail gives back the same
pub record IsFurther (from to : Layers) : Type 0 where
  pub same_size : to.size ≡ from.size
  pub same_room : length to.takings ≡ length from.takings
  pub inside : IsInside (planes_have to) (planes_have from)
  pub grows : from.len ≤ to.len
  pub same : to.len ≡ from.len → planes_have to ≡ planes_have from
  pub lost : from.len < to.len → HasLost (planes_have from) (planes_have to)
  pub back : (n : ℕ) → n ≤ from.len → back_at to n ≡ back_at from n

-- the board was taken back to when the trail had length n, and has each value that it had: each shorter one gives back the same
pub record IsBack (from to : Layers) (n : ℕ) : Type 0 where
  pub same_size : to.size ≡ from.size
  pub same_room : length to.takings ≡ length from.takings
  pub here : planes_have to ≡ back_at from n
  pub len : to.len ≡ n
  pub regained : IsInside (planes_have from) (planes_have to)
  pub back : (m : ℕ) → m ≤ n → back_at to m ≡ back_at from m

-- the words of which a taking was turned over
pub record AreTurned (rows columns rows' columns' : List ℕ) (t : Taking) : Type 0 where
  pub by_rows : (y u x : ℕ) → u < 2 → bit_of rows' y u x
      ≡ differ (bit_of rows y u x) ((u == t.value) && crosses t.line t.bits y x)
  pub by_columns : (x u y : ℕ) → u < 2 → bit_of columns' x u y
      ≡ differ (bit_of columns x u y) ((u == t.value) && crosses t.line t.bits y x)

-- the same of words that stand in lists, and of a taking by a word
abbrev pub IsTurned : {W : Type 0} → (W → ℕ) → Line → ℕ → W → Vec W → Vec W → Vec W → Vec W → Type 0
IsTurned bits line value word rows columns rows' columns' =
    AreTurned (map bits rows.items) (map bits columns.items) (map bits rows'.items) (map bits columns'.items)
    (taking bits line value word)

-- in the line's word of the value the bits are turned over, and in no other
abbrev pub IsTurnedAlong : {W : Type 0} → (W → ℕ) → ℕ → ℕ → W → List W → List W → Type 0
IsTurnedAlong bits line value word old new = (j u k : ℕ) → u < 2 → bit_of (map bits new) j u k
    ≡ differ (bit_of (map bits old) j u k) ((u == value) && ((j == line) && has_bit (bits word) k))

-- in the words of the lines that cross it at these bits the bit of the line is turned over, and no other
abbrev pub IsTurnedAcross : {W : Type 0} → (W → ℕ) → ℕ → ℕ → W → List W → List W → Type 0
IsTurnedAcross bits line value word old new = (k u j : ℕ) → u < 2 → bit_of (map bits new) k u j
    ≡ differ (bit_of (map bits old) k u j) ((u == value) && ((j == line) && has_bit (bits word) k))

-- whether the k-th word has the place
abbrev pub bit_in : {W : Type 0} → (W → ℕ) → List W → ℕ → ℕ → Bool
bit_in bits words k place = has_bit (slice_index (map bits words) k) place

-- the first lines, so many, have this word for both values, and no other word has a place
abbrev pub AreLinesFilled : {W : Type 0} → (W → ℕ) → ℕ → W → List W → Type 0
AreLinesFilled bits lines word words = (k place : ℕ) → bit_in bits words k place
    ≡ (nat_lt k (2 * lines) && has_bit (bits word) place)

-- for the value, the words of the lines at these places are among so many
abbrev pub AreCrossed : ℕ → ℕ → ℕ → ℕ → Type 0
AreCrossed room words value bits = (k : ℕ) → has_bit bits k ≡ true → (k < room) × (2 * k + value < words)

-- the words of a line, and of the lines that cross it at its places, are among so many
abbrev pub HasLine : ℕ → ℕ → ℕ → Line → ℕ → ℕ → Type 0
HasLine room rows columns (Row y) value bits = (y < room) × (2 * y + value < rows)
    × AreCrossed room columns value bits
HasLine room rows columns (Column x) value bits = (x < room) × (2 * x + value < columns)
    × AreCrossed room rows value bits

abbrev pub HasRoomForTaking : {W : Type 0} → ℕ → List W → List W → Taking → Type 0
HasRoomForTaking room rows columns t =
    (t.value < 2) × HasLine room (length rows) (length columns) t.line t.value t.bits

-- each cell of what is to be taken has the value, and there is one
pub record IsThere (p : Layers) (t : Taking) : Type 0 where
  pub value_in : t.value < 2
  pub there : (y x : ℕ) → crosses t.line t.bits y x ≡ true → bit_of p.rows y t.value x ≡ true
  pub some : (y : ℕ) × (x : ℕ) × (crosses t.line t.bits y x ≡ true)

-- what callers see of these lists of words and changes
abbrev pub layers_of : {W : Type 0} → (W → ℕ) → Extent → List W → List W → List (Change W) → ℕ → Layers
layers_of bits size rows columns changes len = record {
  size = size;
  rows = map bits rows;
  columns = map bits columns;
  takings = map (taking_of bits) changes;
  len = len;
}

-- whether the cell at that place of a line has the value
abbrev pub at_line : Layers → Line → ℕ → ℕ → Bool
at_line p (Row y) v k = bit_of p.rows y v k
at_line p (Column x) v k = bit_of p.rows k v x

-- how many lines there are, and how many places the line has
abbrev pub lines_beside : Extent → Line → ℕ
lines_beside size (Row y) = size.h
lines_beside size (Column x) = size.w

abbrev pub line_len : Extent → Line → ℕ
line_len size (Row y) = size.w
line_len size (Column x) = size.h

abbrev pub number_of : Line → ℕ
number_of (Row y) = y
number_of (Column x) = x

-- the lines of a cell of a row and a column are among these
abbrev pub AreLinesOf : {W : Type 0} → (W → ℕ) → Touched W → ℕ → ℕ → Type 0
AreLinesOf bits lines y x =
    (has_bit (bits lines.columns) x ≡ true) × (has_bit (bits lines.rows) y ≡ true)

-- each cell that has this value in the first board and not in the second has its lines among these
abbrev pub IsLostIn : {W : Type 0} → (W → ℕ) → ℕ → ℕ → Candidates → Candidates → Touched W → Type 0
IsLostIn bits w v K L lines =
    (c : ℕ) → K c v ≡ true → L c v ≡ false → AreLinesOf bits lines (c / w) (c % w)
