use Rattle.maker_core.proofs.Common.{filter, is_free, steps, ◌≡◌}
use Rattle.maker_core.proofs.tents.filling.free_cells.Given as goal

abbrev pub invariant-loop-direction : goal.invariant-loop-direction
invariant-loop-direction l = l.places.items ≡ filter (is_free l.fn.filling) (steps l.fn.size l.fn.place l.direction)
