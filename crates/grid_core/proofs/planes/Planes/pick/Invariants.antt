use Rattle.grid_core.proofs.Common.{None, planes_have, pick, ◌*◌, ◌≡◌}
use Rattle.grid_core.proofs.planes.Planes.pick.Given as goal

abbrev pub invariant-loop-y : goal.invariant-loop-y
invariant-loop-y g l = pick (l.y * l.self.size.w) 2 (planes_have l.self) ≡ None
