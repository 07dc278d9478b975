-- What rules keep beside planes, and the boards that are closed on these.
use Rattle.std.specs.Prelude.{◌≡◌, ℕ, ◌≤◌}
use Rattle.engine_core.specs.Below.{Candidates, Extent, IsInside, IsWithin}
use Rattle.grid_core.specs.Planes.{Layers, plane_cells, planes_have}
use Rattle.engine_core.specs.ClosingList.{IsAlive}
use Rattle.engine_core.specs.Keeping.{StillServes}
use Rattle.engine_core.specs.RuleSystem.{RuleSystem, Needs}

-- no side of the grid is longer than words of so many places
abbrev pub IsSuited : Extent → ℕ → Type 0
IsSuited size places = (size.w ≤ places) × (size.h ≤ places)

-- what is kept serves rules, and is of rules, as before
pub record AreKept {R N : Type 0} (fits : N → Needs → Type 0) (written : R → N → Type 0) (from to : N) : Type 0 where
  pub serves : StillServes fits from to
  pub own : (r : R) → written r from → written r to

-- a board of the rules, inside the one that a search starts from, that has a value in each cell
pub record IsLiveBoard (p : RuleSystem) (K : Candidates) : Type 0 where
  pub alive : IsAlive p K
  pub within : IsWithin p.cells p.values K
  pub inside : IsInside K p.start

-- planes of the grid's size have a board of the rules, on words that are long enough
pub record HasBoard (p : RuleSystem) (size : Extent) (places : ℕ) (planes : Layers) : Type 0 where
  pub suited : IsSuited size places
  pub same_size : planes.size ≡ size
  pub cells : plane_cells planes ≡ p.cells
  pub board : IsLiveBoard p (planes_have planes)
