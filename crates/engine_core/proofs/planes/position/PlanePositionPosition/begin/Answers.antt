use Rattle.std.proofs.Common.{◌∙◌}
use Rattle.engine_core.proofs.PlaneSteps.{start-walks}
use Rattle.engine_core.proofs.planes.position.PlanePositionPosition.begin.Goals as goal
use Rattle.engine_core.proofs.planes.position.PlanePositionPosition.begin.Goals.{in-Short, in-Long}

pub start-requires-clause-fits : goal.start-requires-clause-fits
start-requires-clause-fits g c =
    let r = rw (← c.self.view_is) at c.requires in
    g.met.R.Short.PlaneNotes.fits_smaller _ _ _ r (rw c.in-Short.is at c.choose.ensures.planes.room.1)

pub start-requires-in-Long-clause-fits : goal.start-requires-in-Long-clause-fits
start-requires-in-Long-clause-fits g c =
    let r = rw (← c.self.view_is) at c.requires in
    g.met.R.Long.PlaneNotes.fits_smaller _ _ _ r (rw c.in-Long.is at c.choose.ensures.planes.room.1)

pub invariant_of-self : goal.invariant_of-self
invariant_of-self g c = elim c.match-self.branch [
  | in-Short w ↦
      let are = rw w.in-Short.is at c.choose.ensures.planes in
      rw w.self-inside-is (
        record { room = (w.start.ensures.room ∙ are.room.0, w.start.ensures.keeps _ are.room.1); spare_room = are.spare_room; enough = are.enough },
        c.self.invariant.1,
      )
  | in-Long w ↦
      let are = rw w.in-Long.is at c.choose.ensures.planes in
      rw w.self-inside-is (
        record { room = (w.start-in-Long.ensures.room ∙ are.room.0, w.start-in-Long.ensures.keeps _ are.room.1); spare_room = are.spare_room; enough = are.enough },
        c.self.invariant.1,
      )
]

pub returns-clause-walks : goal.returns-clause-walks
returns-clause-walks g c =
    let r = rw (← c.self.view_is) at c.requires in
    let rules = c.args.rules.now in
    let laws = g.met.R.Rules.lawful rules in
    let alive = g.met.R.BinaryRules.alive rules in
    let cells = g.met.R.BinaryRules.cells_are rules in
    elim c.match-self.branch [
      | in-Short w ↦
          let start = w.start.ensures in
          rw w.self-inside-is (start-walks _ laws alive r start.size cells (rw w.in-Short.is at c.choose.ensures.suited) start.written start.start)
      | in-Long w ↦
          let start = w.start-in-Long.ensures in
          rw w.self-inside-is (start-walks _ laws alive r start.size cells (rw w.in-Long.is at c.choose.ensures.suited) start.written start.start)
    ]
