-- A board with the trail of its changes, as a position, and which houses wait. No public contract uses these words.
use Rattle.std.specs.Prelude.{Bool, List, Option, false, length, nat_le, not, slice_index, slice_index_or, true, ℕ, ◌&&◌, ◌*◌, ◌+◌, ◌<◌, ◌==◌, ◌^◌, ◌≡◌, ◌≢◌, ◌≤◌}
use Rattle.engine_core.specs.Below.{Candidates, IsInside, Layout, SameShape, any_below, cells_of, has, put_back, total, with_set}
use Rattle.engine_core.specs.RuleSystem.{FitsIn, IsBoardOf, Needs, RuleSystem, after, has_place, needs_of}
use Rattle.engine_core.specs.ClosingList.{IsAlive, IsDeadAfter}
use Rattle.engine_core.specs.Queue.{IsRested, IsWoken, counts_of}
use Rattle.engine_core.specs.Sets.{AreWoken, has_bit, is_waiting, words_of}
use Rattle.engine_core.specs.Position.{IsClosedBut, Standing}

-- A board with the trail of its changes, so that it can be put back.

-- a change: the cell, and the set that it had before, as bits
abbrev pub change_at : List (ℕ × ℕ) → ℕ → ℕ × ℕ
change_at changes k = slice_index_or changes k (0, 0)

-- the board with the values that the cell had before the change
abbrev pub given_back : Candidates → ℕ × ℕ → Candidates
given_back K change = with_set K change.0 change.1

-- the board with no more in the cell than these bits have
unfoldable pub left_by : Candidates → ℕ → ℕ → Candidates
left_by K place bits c v = K c v && not ((place == c) && not (has_bit bits v))

-- the board before the changes from the number `mark` up to n
abbrev pub before_changes : Candidates → List (ℕ × ℕ) → ℕ → ℕ → Candidates
before_changes K changes mark n = put_back given_back (0, 0) K changes mark n

-- a board, and its changes: the first `len` of the list
pub record Trail : Type 0 where
  pub board : Layout
  pub changes : List (ℕ × ℕ)
  pub len : ℕ

-- the board that a mark gives back
abbrev pub trail_back_at : Trail → ℕ → Candidates
trail_back_at t mark = before_changes (has t.board) t.changes mark t.len

-- the changes are of cells and values of the board, and there is room for as many as can come
pub record IsTrail (cells values : ℕ) (K : Candidates) (changes : List (ℕ × ℕ))
    (len : ℕ) : Type 0 where
  pub long : length changes ≡ cells * values
  pub changes_in : (k : ℕ) → k < len
      → ((change_at changes k).0 < cells) × ((change_at changes k).1 < 2 ^ values)
  pub room : (mark : ℕ) → mark ≤ len
      → total cells values (before_changes K changes mark len) + mark ≤ length changes

-- values were struck, and are noted: each earlier mark gives back the same
pub record IsTrailLonger (from to : Trail) : Type 0 where
  pub shape : SameShape from.board to.board
  pub same_room : length to.changes ≡ length from.changes
  pub inside : IsInside (has to.board) (has from.board)
  pub grows : from.len ≤ to.len
  pub back : (mark : ℕ) → mark ≤ from.len → trail_back_at to mark ≡ trail_back_at from mark

-- the trail was taken back to the mark: each earlier mark gives back the same
pub record IsTrailBack (from to : Trail) (mark : ℕ) : Type 0 where
  pub shape : SameShape from.board to.board
  pub same_room : length to.changes ≡ length from.changes
  pub here : has to.board ≡ trail_back_at from mark
  pub len : to.len ≡ mark
  pub back : (earlier : ℕ) → earlier ≤ mark → trail_back_at to earlier ≡ trail_back_at from earlier

-- the changes since the first trail are those of the first n cells of h that lost a value
pub record AreLost (p : RuleSystem) (h n : ℕ) (from to : Trail) : Type 0 where
  pub only : (m : ℕ) → from.len ≤ m → m < to.len
      → (k : ℕ) × (k < n) × (slice_index (p.scope h) k ≡ (change_at to.changes m).0)
      × (counts_of p h (has from.board) k ≢ counts_of p h (has to.board) k)
  pub all : (k : ℕ) → k < n → counts_of p h (has from.board) k ≢ counts_of p h (has to.board) k
      → (m : ℕ) × (from.len ≤ m) × (m < to.len)
      × ((change_at to.changes m).0 ≡ slice_index (p.scope h) k)

-- the changes of before are as they were
abbrev pub KeepsChanges : Trail → Trail → Type 0
KeepsChanges from to = (m : ℕ) → m < from.len → change_at to.changes m ≡ change_at from.changes m

-- the house j has a cell with a change from the number `from` on and below n
abbrev pub is_since : RuleSystem → Trail → ℕ → ℕ → ℕ → Bool
is_since p t from n j =
    any_below (λ m. nat_le from m && has_place (p.scope j) (change_at t.changes m).0) n

-- a visit of h struck values, noted them, and left each cell a value
pub record IsHouseStruck (p : RuleSystem) (h : ℕ) (from to : Trail) : Type 0 where
  pub left : has to.board ≡ after p h (has from.board)
  pub alive : IsAlive p (has to.board)
  pub lost : AreLost p h (length (p.scope h)) from to

-- the numbers rise, and are below n
pub record AreRising (n : ℕ) (list : List ℕ) : Type 0 where
  pub within : (t : ℕ) → t < length list → slice_index list t < n
  pub rising : (t u : ℕ) → t < u → u < length list → slice_index list t < slice_index list u

-- a visit of h strikes nothing from its cells that the list doesn't number
abbrev pub AreKeptOutside : RuleSystem → ℕ → Candidates → List ℕ → Type 0
AreKeptOutside p h K list = (k v : ℕ) → k < length (p.scope h)
    → ((t : ℕ) → t < length list → slice_index list t ≡ k → ⊥)
    → after p h K (slice_index (p.scope h) k) v ≡ K (slice_index (p.scope h) k) v

-- A board with its trail as a position.

-- what the memory was taken for, the board with its trail, which houses wait, and what is noted beside the board
pub record Placed (N : Type 0) : Type 0 where
  pub made : Needs
  pub trail : Trail
  pub waits : List ℕ
  pub notes : N

-- the lists are as long as that wants, and the board is as large
pub record IsPlaced (made : Needs) (board : Layout) (waits first : List ℕ) : Type 0 where
  pub board_cells : cells_of board ≡ made.cells
  pub board_values : board.values ≡ made.values
  pub waits_long : length waits ≡ words_of made.houses
  pub first_long : length first ≡ words_of made.houses
  pub few_turns : made.bound < 18446744073709551616

-- the same of a board that is closed by plain visits: nothing is noted
pub record IsPlainPlaced (made : Needs) (board : Layout) : Type 0 where
  pub board_cells : cells_of board ≡ made.cells
  pub board_values : board.values ≡ made.values

abbrev pub no_notes : Candidates → Unit {0} → Type 0
no_notes K notes = Unit {0}

abbrev pub board_in : {N : Type 0} → Placed N → Candidates
board_in s = has s.trail.board

-- the memory is enough for the rules, the board is one of theirs, and what is noted is true of it
pub record IsAlong {N : Type 0} (are_true : Candidates → N → Type 0) (p : RuleSystem) (s : Placed N)
    : Type 0 where
  pub fits : FitsIn (needs_of p) s.made
  pub board_of : IsBoardOf p s.trail.board
  pub noted : are_true (board_in s) s.notes

-- ---- which houses wait
-- a house that does not wait strikes nothing
abbrev pub AreHousesRested : {N : Type 0} → RuleSystem → Placed N → Type 0
AreHousesRested p s = IsRested p (board_in s) (is_waiting s.waits)

-- the same of each board that was closed before the cell of that place lost values, if one is named
abbrev pub AreRestedBut : RuleSystem → Option ℕ → List ℕ → Type 0
AreRestedBut p place waits = (K : Candidates) → IsClosedBut p K place → IsRested p K (is_waiting waits)

-- the houses of each cell are marked that the trail names from this number on
abbrev pub AreWokenSince : RuleSystem → Trail → ℕ → List ℕ → List ℕ → Type 0
AreWokenSince p t from old new = AreWoken p (is_since p t from t.len) (is_waiting old) (is_waiting new)

-- ---- from one place to a later one
-- values were struck and noted
pub record GoesOn {N : Type 0} (from to : Placed N) : Type 0 where
  pub made : to.made ≡ from.made
  pub further : IsTrailLonger from.trail to.trail

-- a visit of h that leaves each cell a value was made, and its houses wait; or it would leave a cell without one
abbrev pub IsStep : {N : Type 0} → RuleSystem → ℕ → Placed N → Placed N → Bool → Type 0
IsStep p h from to true = IsDeadAfter p h (board_in from)
IsStep p h from to false =
    (board_in to ≡ after p h (board_in from)) × IsAlive p (board_in to)
    × IsWoken p h (board_in from) (board_in to) (is_waiting from.waits) (is_waiting to.waits)

-- ---- what a walk sees of it
abbrev pub standing_of : {N : Type 0} → Placed N → Standing
standing_of s = record { board = board_in s; len = s.trail.len; back = trail_back_at s.trail }

-- a walk is under way, inside the start
pub record IsTrailUnderWay {N : Type 0} (are_true : Candidates → N → Type 0) (p : RuleSystem)
    (s : Placed N) : Type 0 where
  pub along : IsAlong are_true p s
  pub inside : IsInside (board_in s) p.start
