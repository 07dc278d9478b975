use Rattle.grid_core.proofs.Common.{IsFreeFor, ◌-◌, ◌<◌}
use Rattle.grid_core.proofs.augmenting.free_right.Given as goal

abbrev pub invariant-loop-right : goal.invariant-loop-right
invariant-loop-right g l = (r : _) → r < l.from → IsFreeFor (g.E.Edges.joins l.edges) (g.E.Edges.right_count l.edges) l.mates.mates l.left r → ⊥

abbrev pub decreases-loop-right : goal.decreases-loop-right
decreases-loop-right g l = g.E.Edges.right_count l.edges - l.from
