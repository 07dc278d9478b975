use Rattle.grid_core.proofs.Common.{◌-◌}
use Rattle.grid_core.proofs.PairingLemmas.{IsScan}
use Rattle.grid_core.proofs.augmenting.reach_owners.Given as goal

abbrev pub invariant-loop-right : goal.invariant-loop-right
invariant-loop-right g l =
    IsScan (g.E.Edges.joins l.edges) l.mates.mates l.fn.frontier l.frontier l.left l.from

abbrev pub decreases-loop-right : goal.decreases-loop-right
decreases-loop-right g l = g.E.Edges.right_count l.edges - l.from
