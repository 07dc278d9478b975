use Rattle.std.proofs.Common.{◌∙◌}
use Rattle.engine_core.proofs.planes.position.PlanePositionPosition.close.Goals as goal
use Rattle.engine_core.proofs.planes.position.PlanePositionPosition.close.Goals.{in-Short, in-Long}

pub close-requires-clause-fits : goal.close-requires-clause-fits
close-requires-clause-fits g c =
    let r = rw (← c.self.view_is) at c.requires in
    g.met.R.Short.PlaneNotes.fits_smaller _ _ _ r.walks.fits (rw c.in-Short.is at c.self.invariant.0.room.1)

pub close-requires-in-Long-clause-fits : goal.close-requires-in-Long-clause-fits
close-requires-in-Long-clause-fits g c =
    let r = rw (← c.self.view_is) at c.requires in
    g.met.R.Long.PlaneNotes.fits_smaller _ _ _ r.walks.fits (rw c.in-Long.is at c.self.invariant.0.room.1)

pub invariant_of-self : goal.invariant_of-self
invariant_of-self g c = elim c.match-self.branch [
  | in-Short w ↦
      let are = rw w.in-Short.is at c.self.invariant.0 in
      rw w.self-inside-is (
        record { room = (w.close.ensures.further.same_room ∙ are.room.0, w.close.ensures.kept.serves _ are.room.1); spare_room = are.spare_room; enough = are.enough },
        w.close.ensures.keeps _ c.self.invariant.1,
      )
  | in-Long w ↦
      let are = rw w.in-Long.is at c.self.invariant.0 in
      rw w.self-inside-is (
        record { room = (w.close-in-Long.ensures.further.same_room ∙ are.room.0, w.close-in-Long.ensures.kept.serves _ are.room.1); spare_room = are.spare_room; enough = are.enough },
        w.close-in-Long.ensures.keeps _ c.self.invariant.1,
      )
]
