use Rattle.grid_core.proofs.Common.{length, steps, ◌+◌, ◌≡◌}
use Rattle.grid_core.proofs.regions.beside.Given as goal

abbrev pub invariant-loop-direction : goal.invariant-loop-direction
invariant-loop-direction l = l.left + length (steps l.size l.place l.direction) ≡ l.k
