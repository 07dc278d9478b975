use Rattle.engine_core.proofs.MarkLemmas.{marks-at}
use Rattle.engine_core.proofs.houses.table.HouseTable.marks_at.Goals as goal

pub returns : goal.returns
returns c =
    rw (← c.self.view_is, c.len.ensures.len, c.deref-marks.ensures.value)
    (marks-at _ c.args.place (rw (← c.self.view_is) at c.requires) c.self.invariant)
