use Rattle.engine_core.proofs.PlaneSteps.{leave-walks}
use Rattle.engine_core.proofs.planes.position.PlanePositionPosition.leave.Goals as goal
use Rattle.engine_core.proofs.planes.position.PlanePositionPosition.leave.Goals.{in-Short, in-Long}

pub returns-clause-walks : goal.returns-clause-walks
returns-clause-walks g c =
    let r = rw (← c.self.view_is) at c.requires in
    elim c.match-self.branch [
      | in-Short w ↦
          let r = rw w.in-Short.is at r in
          rw w.self-inside-is (leave-walks _ _ c.args.cell c.args.value r.walks w.assign.ensures.further r.value_in r.there w.assign.ensures.left)
      | in-Long w ↦
          let r = rw w.in-Long.is at r in
          rw w.self-inside-is (leave-walks _ _ c.args.cell c.args.value r.walks w.assign-in-Long.ensures.further r.value_in r.there w.assign-in-Long.ensures.left)
    ]
