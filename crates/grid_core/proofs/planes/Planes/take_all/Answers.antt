use Rattle.grid_core.proofs.Common.{arith, layers_of, length-map, set, taking_of, ◌+◌}
use Rattle.grid_core.proofs.PlaneLemmas.{ArePlanesTaken, room_to_note, taking_in}
use Rattle.grid_core.proofs.TakingLemmas.{takings-len}
use Rattle.grid_core.proofs.PlaneSteps.{take_step, room_at}
use Rattle.grid_core.proofs.planes.Planes.take_all.Goals as goal
use Rattle.grid_core.proofs.planes.Planes.take_all.Goals.{After-turn_line}

pub index_mut-requires : goal.index_mut-requires
index_mut-requires g c =
    let p = c.self.inside in
    let r = rw (← c.self.view_is) at c.requires in
    let lt = room_to_note g.W.Word.room _ _ c.self.invariant r in
    omega (arith, lt, length-map p.changes.items (taking_of g.W.Word.bits), p.changes.ok.0)

pub overflow_add-self : goal.overflow_add-self
overflow_add-self g c =
    let p = c.self.inside in
    omega (arith, takings-len _ _ _ _ c.self.invariant.takings, length-map p.changes.items (taking_of g.W.Word.bits), p.changes.ok, p.changes.small)

pub turn_line-requires : goal.turn_line-requires
turn_line-requires g c =
    room_at _ c.self.inside c.self.invariant _ (taking_in _ _ _ c.self.invariant (rw (← c.self.view_is) at c.requires))

step : (g : _) (c : After-turn_line g)
    → ArePlanesTaken g.W.Word.room
    (layers_of g.W.Word.bits c.self.inside.size c.self.inside.rows.items c.self.inside.columns.items c.self.inside.changes.items c.self.inside.len)
    (layers_of g.W.Word.bits c.self.inside.size c.turn_line.new.rows.items c.turn_line.new.columns.items
    (set c.self.inside.changes.items c.self.inside.len (record { line = c.args.line; value = c.args.value; bits = c.args.bits })) (c.self.inside.len + 1))
    (record { line = c.args.line; value = c.args.value; bits = g.W.Word.bits c.args.bits })
step g c =
    let t = c.turn_line.ensures in
    take_step _ c.self.inside c.self.invariant c.turn_line.new.rows c.turn_line.new.columns _ (rw (← c.self.view_is) at c.requires) t.turned t.tall t.wide

pub invariant_of-self : goal.invariant_of-self
invariant_of-self g c = (step g (goal.at.invariant_of-self g c).After-turn_line).are

pub returns-clause-left : goal.returns-clause-left
returns-clause-left g c = rw (← c.self.view_is) (step g (goal.at.returns-clause-left g c).After-turn_line).left

pub returns-clause-further : goal.returns-clause-further
returns-clause-further g c = rw (← c.self.view_is) (step g (goal.at.returns-clause-further g c).After-turn_line).further
