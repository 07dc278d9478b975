use Rattle.engine_core.proofs.PlaneSteps.{undo-walks}
use Rattle.engine_core.proofs.planes.position.PlanePositionPosition.undo.Goals as goal
use Rattle.engine_core.proofs.planes.position.PlanePositionPosition.undo.Goals.{in-Short, in-Long}

pub returns-clause-walks : goal.returns-clause-walks
returns-clause-walks g c =
    let r = rw (← c.self.view_is) at c.requires in
    let laws = g.met.R.Rules.lawful c.args._rules.now in
    elim c.match-self.branch [
      | in-Short w ↦ rw w.self-inside-is (let r = rw w.in-Short.is at r in undo-walks _ _ c.args.mark laws r.walks r.inside w.undo.ensures)
      | in-Long w ↦ rw w.self-inside-is (let r = rw w.in-Long.is at r in undo-walks _ _ c.args.mark laws r.walks r.inside w.undo-in-Long.ensures)
    ]
