use Rattle.std.proofs.Common.{◌≡◌, ℕ, ◌<◌, ◌≤◌, false}
use Rattle.grid_core.specs.Planes.{planes_have}
use Rattle.engine_core.proofs.planes.position.PlanePositionPosition.next_value.Given as goal

abbrev pub invariant-loop-value : goal.invariant-loop-value
invariant-loop-value g l = (j : ℕ) → l.from ≤ j → j < l.value → planes_have l.self.planes l.cell j ≡ false
