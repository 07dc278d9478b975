use Rattle.engine_core.proofs.Common.{IsBitsOf, arith, has, ◌≡◌}
use Rattle.engine_core.proofs.QueueLemmas.{IsBoardOf-same, within_of}
use Rattle.engine_core.proofs.SetLemmas.{bits-are}
use Rattle.engine_core.proofs.TrailLemmas.{followed-all, followed-bits, followed-left, followed-same, further-more}
use Rattle.engine_core.proofs.trail.trailed.TrailedBoard.follow.Goals as goal
use Rattle.engine_core.proofs.trail.trailed.TrailedBoard.follow.Goals.{After-bits-left, then-left-before, else-left-before}

-- what the cell is to have left
left : (g : _) (c : After-bits-left g) → IsBitsOf (has c.args.board.now c.loop-place.place) (g.R.Rules.system c.args.rules.now).values c.bits-left.result
left g c = rw (← c.requires.same_shape.same_values) (bits-are c.args.board.now c.loop-place.place c.bits-left.ensures.small c.bits-left.ensures.same)

pub leave-requires-clause-left : goal.leave-requires-clause-left
leave-requires-clause-left g c =
    followed-bits c.requires.inside c.loop-place.invariant.followed (left g (goal.at.leave-requires-clause-left g c).After-bits-left)

pub loop-place-preserved : goal.loop-place-preserved
loop-place-preserved g c =
    let i = c.loop-place.invariant in
    let within = within_of _ _ c.requires.board_of in
    let is = left g (goal.at.loop-place-preserved g c).After-bits-left in
    let of = rw (← c.self.view_is) at (IsBoardOf-same c.requires.board_of i.further.shape) in
    let was : IsBitsOf (has c.loop-place.self.board c.loop-place.place) (g.R.Rules.system c.args.rules.now).values c.bits-before.result =
    rw (← c.self.view_is, ← of.same_values) (bits-are c.self.inside.board c.loop-place.place c.bits-before.ensures.small c.bits-before.ensures.same) in
    elim c.if-left-before.branch [
      | then-left-before w ↦ rw w.self-is (record {
        followed = rw w.leave.ensures.left (followed-left within c.requires.inside i.followed is);
        further = further-more i.further w.leave.ensures.further;
      })
      | else-left-before w ↦ rw w.self-is (record {
        followed = followed-same within c.requires.inside i.followed (rw (← w.if-left-before.false) at was) is;
        further = i.further;
      })
    ]

pub returns-clause-left : goal.returns-clause-left
returns-clause-left g c =
    let i = c.loop-place.invariant in
    let all : c.loop-place.place ≡ (g.R.Rules.system c.args.rules.now).cells = omega (arith, c.cells-place-end.ensures) in
    followed-all (within_of _ _ c.requires.board_of) c.requires.inside (rw all at i.followed)
