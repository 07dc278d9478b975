use Rattle.engine_core.proofs.Common.{Table, ap, length, ◌∙◌}
use Rattle.engine_core.proofs.MarkLemmas.{next-marked}
use Rattle.engine_core.proofs.houses.table.HouseTable.next_at.Goals as goal

pub returns : goal.returns
returns c =
    let many = c.len.ensures.len ∙ ap (λ (t : Table). length t.scopes) c.self.view_is in
    next-marked c.args.place c.args.from c.next_waiting.result c.marks_at.ensures (rw many at c.next_waiting.ensures)
