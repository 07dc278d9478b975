use Rattle.grid_core.proofs.Common.{IsExplored, IsFrontierOf, length, ◌-◌, ◌≡◌, ◌≤◌}
use Rattle.grid_core.proofs.augmenting.explore.Given as goal

abbrev pub invariant-loop-head : goal.invariant-loop-head
invariant-loop-head g l =
    (l.frontier.room ≡ l.fn.frontier.room) × (l.head ≤ length l.frontier.lefts)
    × IsFrontierOf (g.E.Edges.joins l.edges) l.mates.mates l.frontier
    × IsExplored (g.E.Edges.joins l.edges) (g.E.Edges.right_count l.edges) l.mates.mates l.frontier.lefts l.head

abbrev pub decreases-loop-head : goal.decreases-loop-head
decreases-loop-head g l = l.frontier.room - l.head
