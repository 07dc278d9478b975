-- What closings by plain visits work in. No public contract uses these words.
use Rattle.std.specs.Prelude.{◌≡◌, ℕ, ◌<◌, ◌≤◌, Bool, true, false, ◌||◌, List, length, take, if◌then◌else◌}
use Rattle.engine_core.specs.Below.{Candidates, IsInside, Layout, SameShape, cells_of, has, is_dead}
use Rattle.engine_core.specs.RuleSystem.{RuleSystem, Needs, after}
use Rattle.engine_core.specs.Closing.{HasStruck}
use Rattle.engine_core.specs.ClosingList.{IsClosing}
use Rattle.engine_core.specs.Keeping.{AreHeadSets, AreSetsOf}
use Rattle.engine_core.specs.Queue.{IsWoken, but, called_for}
use Rattle.engine_core.specs.Sets.{AreWoken, words_of, is_waiting}
use Rattle.engine_core.specs.declared.closing.closer.Effect.{Effect}
use Rattle.engine_core.specs.declared.mode.Taken.{Taken}

-- what the memory was taken for, the board, which houses wait, and the room for the houses that a closing visits
pub record BoardAndMarks : Type 0 where
  pub made : Needs
  pub board : Layout
  pub waits : List ℕ
  pub trace : List ℕ

-- the lists are as long as that wants, and the board is as large
pub record IsCloserOf (made : Needs) (board : Layout) (sets waits : List ℕ) : Type 0 where
  pub board_cells : cells_of board ≡ made.cells
  pub board_values : board.values ≡ made.values
  pub sets_long : length sets ≡ made.scope
  pub waits_long : length waits ≡ words_of made.houses
  pub few_turns : made.bound < 18446744073709551616

-- of so many turns of a closing, those that are visits of a queue, and those that are sweeps
abbrev pub visits_in : Bool → ℕ → ℕ
visits_in by_queue turns = if by_queue then turns else 0

abbrev pub sweeps_in : Bool → ℕ → ℕ
sweeps_in by_queue turns = if by_queue then 0 else turns

-- the list begins with these visits, if it has room for them
abbrev pub AreWritten : List ℕ → List ℕ → Type 0
AreWritten visits trace = length visits ≤ length trace → take (length visits) trace ≡ visits

-- what a closing of the board K came to after so many turns: in a queue these are its visits
pub record IsClosedBy (p : RuleSystem) (by_queue : Bool) (K : Candidates) (taken : Taken)
    (closer : BoardAndMarks) : Type 0 where
  pub visits : List ℕ
  pub closing : IsClosing p K (has closer.board) taken.closing visits
      (sweeps_in by_queue taken.turns)
  pub many : length visits ≡ visits_in by_queue taken.turns
  pub written : AreWritten visits closer.trace

-- the same from a board to the one that is left
abbrev pub IsClosedFrom : RuleSystem → Bool → BoardAndMarks → Taken → BoardAndMarks → Type 0
IsClosedFrom p by_queue from taken to = IsClosedBy p by_queue (has from.board) taken to

-- where these are the sets of cells of h in a board that had no less, those houses are marked that a cell with another set
-- now calls for
abbrev pub AreCalled : RuleSystem → ℕ → List ℕ → Candidates → List ℕ → List ℕ → Type 0
AreCalled p h sets now old new = (K : Candidates) → AreSetsOf p h K sets → IsInside now K
    → AreWoken p (called_for p h K now) (is_waiting old) (is_waiting new)

-- the same at the head of the list, after a visit of h from that board
abbrev pub AreWokenAfter : RuleSystem → ℕ → List ℕ → Candidates → List ℕ → List ℕ → Type 0
AreWokenAfter p h sets now old new = (K : Candidates) (before : ℕ → Bool) → AreHeadSets p h K sets
    → IsInside now K → ((j : ℕ) → is_waiting old j ≡ but before h j)
    → IsWoken p h K now before (is_waiting new)

-- each house waits
abbrev pub AllWait : RuleSystem → List ℕ → Type 0
AllWait p waits = (j : ℕ) → j < p.houses → is_waiting waits j ≡ true

-- the room is the same
pub record SameRoom (from to : BoardAndMarks) : Type 0 where
  pub made : to.made ≡ from.made
  pub shape : SameShape from.board to.board
  pub trace_long : length to.trace ≡ length from.trace

-- a visit of h: what it left, whether it struck anything, whether the board is dead then, and which houses wait
pub record IsVisited (p : RuleSystem) (h : ℕ) (from to : BoardAndMarks) (effect : Effect)
    : Type 0 where
  pub left : has to.board ≡ after p h (has from.board)
  pub idle : effect.struck ≡ false → has to.board ≡ has from.board
  pub struck : effect.struck ≡ true → HasStruck (has from.board) (has to.board)
  pub dead : is_dead p.cells p.values (has to.board)
      ≡ (is_dead p.cells p.values (has from.board) || effect.dead)
  pub woken : p.by_queue ≡ true
      → IsWoken p h (has from.board) (has to.board) (is_waiting from.waits) (is_waiting to.waits)
  pub rewoken : p.by_queue ≡ false → (j : ℕ) → j < p.houses
      → is_waiting to.waits j ≡ (effect.struck || but (is_waiting from.waits) h j)
