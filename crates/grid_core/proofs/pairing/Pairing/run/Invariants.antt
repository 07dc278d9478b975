use Rattle.grid_core.proofs.Common.{AreMatesJoined, length, ◌-◌, ◌≡◌, ◌≤◌}
use Rattle.grid_core.proofs.pairing.Pairing.run.Given as goal

abbrev pub invariant-loop-self : goal.invariant-loop-self
invariant-loop-self g l =
    let s = l.self-inside in
    (s.mates.room ≡ l.fn.self.room) × (s.frontier.room ≡ s.mates.room) × (length s.mates.mates ≤ g.E.Edges.left_count l.edges)
    × AreMatesJoined (g.E.Edges.joins l.edges) (g.E.Edges.right_count l.edges) s.mates.mates

abbrev pub decreases-loop-self : goal.decreases-loop-self
decreases-loop-self g l = g.E.Edges.left_count l.edges - length l.self-inside.mates.mates
