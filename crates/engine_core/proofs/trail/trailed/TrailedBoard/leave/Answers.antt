use Rattle.engine_core.proofs.Common.{arith, get_or-set_other, get_or-set_same, length-set, ◌<◌}
use Rattle.engine_core.proofs.QueueLemmas.{left-is}
use Rattle.engine_core.proofs.TrailLemmas.{IsCellLeft, left-noted, trail-len}
use Rattle.engine_core.proofs.trail.trailed.TrailedBoard.leave.Goals as goal
use Rattle.engine_core.proofs.trail.trailed.TrailedBoard.leave.Goals.{After-retain}

-- what the change leaves
noted : (g : _) (c : After-retain g)
    → IsCellLeft (g.R.Rules.system c.args.rules.now) c.self.inside.board c.retain.new.self
    c.self.inside.changes.items c.self.inside.len c.args.place c.args.before c.args.left
noted g c =
    let r = rw (← c.self.view_is) at c.requires in
    left-noted r.board_of c.retain.ensures.shape r.place_in r.before r.left (left-is _ _ _ c.retain.ensures.left) r.other c.self.invariant

pub index_mut-requires : goal.index_mut-requires
index_mut-requires g c =
    omega (arith, (noted g (goal.at.index_mut-requires g c).After-retain).room, c.self.inside.changes.ok.0)

pub overflow_add-self : goal.overflow_add-self
overflow_add-self g c =
    let v = c.self.inside.changes in
    omega (arith, trail-len c.self.invariant, v.ok, v.small)

pub invariant_of-self : goal.invariant_of-self
invariant_of-self g c = (noted g (goal.at.invariant_of-self g c).After-retain).trail

pub returns-clause-left : goal.returns-clause-left
returns-clause-left g c = rw (← c.self.view_is) (left-is _ _ _ c.retain.ensures.left)

pub returns-clause-further : goal.returns-clause-further
returns-clause-further g c =
    let left = noted g (goal.at.returns-clause-further g c).After-retain in
    rw (← c.self.view_is) (record {
      shape = c.retain.ensures.shape;
      same_room = length-set c.self.inside.changes.items c.self.inside.len (c.args.place, c.args.before);
      inside = left.inside;
      grows = omega arith;
      back = λ m le. left.back m le;
    })

pub returns-clause-noted : goal.returns-clause-noted
returns-clause-noted g c =
    let room = (noted g (goal.at.returns-clause-noted g c).After-retain).room in
    rw (← c.self.view_is) (get_or-set_same c.self.inside.changes.items c.self.inside.len (c.args.place, c.args.before) (0, 0) room)

pub returns-clause-earlier : goal.returns-clause-earlier
returns-clause-earlier g c = λ m lt.
    let less : m < c.self.inside.len = rw (← c.self.view_is) at lt in
    rw (← c.self.view_is) (get_or-set_other c.self.inside.changes.items c.self.inside.len m _ (0, 0) (λ e. absurd (omega arith)))
