use Rattle.grid_core.proofs.PairingLemmas.{IsShifting}
use Rattle.grid_core.proofs.augmenting.shift.Given as goal

abbrev pub invariant-loop-place : goal.invariant-loop-place
invariant-loop-place g l =
    IsShifting (g.E.Edges.joins l.edges) (g.E.Edges.right_count l.edges) l.fn.mates l.mates l.frontier l.place l.right

abbrev pub decreases-loop-place : goal.decreases-loop-place
decreases-loop-place g l = l.place
