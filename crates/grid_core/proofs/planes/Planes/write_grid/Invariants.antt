use Rattle.grid_core.proofs.Common.{◌*◌, ◌+◌}
use Rattle.grid_core.proofs.PlaneSteps.{IsWritten}
use Rattle.grid_core.proofs.planes.Planes.write_grid.Given as goal

abbrev pub invariant-loop-y : goal.invariant-loop-y
invariant-loop-y g l = IsWritten l.self l.grid (l.y * l.self.size.w)

abbrev pub invariant-loop-x : goal.invariant-loop-x
invariant-loop-x g l = IsWritten l.self l.grid (l.y * l.self.size.w + l.x)
