-- What a walk sees of a position: its board, and the boards that it can be taken back to.
use Rattle.std.specs.Prelude.{◌≡◌, Bool, ℕ, ◌*◌, ◌≤◌, List, Option, Some, None, false, true}
use Rattle.grid_core.specs.Candidates.{Candidates, IsInside, IsWithin, grid_of, is_dead, is_full, only}
use Rattle.engine_core.specs.RuleSystem.{IsClosed, Needs, RuleSystem}
use Rattle.engine_core.specs.Closing.{closure}
use Rattle.engine_core.specs.ClosingList.{IsDead, IsAlive}
use Rattle.engine_core.specs.declared.mode.Closing.{Closing}
use Rattle.engine_core.specs.declared.mode.Closing.TheVariants.{Dead, Open}

-- what the memory was taken for, and how many changes a trail of it can hold
pub record Room : Type 0 where
  pub needs : Needs
  pub trail : ℕ

-- how many changes a search can note at once
abbrev pub most_changes : RuleSystem → ℕ
most_changes p = p.cells * p.values

-- each cell of the board has exactly one value, and the grid of these
abbrev pub IsFull : RuleSystem → Candidates → Type 0
IsFull p E = is_full p.cells p.values E ≡ true

abbrev pub own_grid : RuleSystem → Candidates → List ℕ
own_grid p E = grid_of p.cells p.values E

-- whether that is a solution
abbrev pub is_solved : RuleSystem → Candidates → Bool
is_solved p E = p.is_solution (own_grid p E)

-- a board, the length of its trail, and the board that each such length gives back
pub record Standing : Type 0 where
  pub board : Candidates
  pub len : ℕ
  pub back : ℕ → Candidates

-- values were struck: the trail is no shorter, and each length that it had gives back the same
pub record IsOnward (from to : Standing) : Type 0 where
  pub inside : IsInside to.board from.board
  pub grows : from.len ≤ to.len
  pub back : (mark : ℕ) → mark ≤ from.len → to.back mark ≡ from.back mark

-- the board was taken back to when the trail had this length: each shorter one gives back the same
pub record IsReturned (from to : Standing) (mark : ℕ) : Type 0 where
  pub here : to.board ≡ from.back mark
  pub len : to.len ≡ mark
  pub back : (earlier : ℕ) → earlier ≤ mark → to.back earlier ≡ from.back earlier

-- before the cell of the place lost all values but one, the board was closed, and each cell had a value
pub record IsClosedAround (p : RuleSystem) (K : Candidates) (place : ℕ) : Type 0 where
  pub before : Candidates
  pub value : ℕ
  pub had : before place value ≡ true
  pub within : IsWithin p.cells p.values before
  pub closed : IsClosed p before
  pub alive : is_dead p.cells p.values before ≡ false
  pub is : K ≡ only before place value

-- where a place is named, the board was closed before its cell lost values; else a search starts from it
abbrev pub IsClosedBut : RuleSystem → Candidates → Option ℕ → Type 0
IsClosedBut p K None = K ≡ p.start
IsClosedBut p K (Some place) = IsClosedAround p K place

-- a closing of the board K left the board E: its closure, with a value in each cell, or else the closure is dead
pub record IsTaken (p : RuleSystem) (K E : Candidates) (answer : Closing) : Type 0 where
  pub dead : answer ≡ Dead → IsDead p (closure p K)
  pub left : answer ≡ Open → E ≡ closure p K
  pub alive : answer ≡ Open → IsAlive p E

-- the same from where a position stood to where it stands
abbrev pub IsTakenTo : RuleSystem → Standing → Standing → Closing → Type 0
IsTakenTo p from to answer = IsTaken p from.board to.board answer
