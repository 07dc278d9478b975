use Rattle.fields_core.proofs.Common.{◌∙◌}
use Rattle.fields_core.proofs.TentCounting.{column-visited}
use Rattle.fields_core.proofs.planes.tents.lines.visit_column.Goals as goal

pub returns : goal.returns
returns g c =
    column-visited
    (g.W.Word.bits c.rows.result) c.from-tents.result c.visit.result c.column_number.ensures.lawful c.requires.size c.requires.x_in
    (rw c.requires.size at c.rows.ensures)
    (rw (c.from.ensures) at (c.from-tents.ensures ∙ c.column_number.ensures.value))
    (λ house of. (λ e. c.visit.ensures.left e house of, λ e. c.visit.ensures.broken e house of)) c.visit.ensures.alive c.visit.ensures.further
