use Rattle.fields_core.proofs.Common.{arith, lt-ltb, ◌∙◌}
use Rattle.fields_core.proofs.TentCounting.{row-visited}
use Rattle.fields_core.proofs.planes.tents.lines.visit_row.Goals as goal

pub returns : goal.returns
returns g c =
    row-visited c.args.puzzle.now c.args.y (g.W.Word.bits c.all.result) c.from-tents.result c.args.planes.now c.visit.new.planes c.visit.result c.row_number.ensures.lawful c.requires.size c.requires.y_in
    (λ k lt. c.all.ensures k ∙ lt-ltb k _ (omega (arith, lt, c.requires.narrow, c.places.ensures.value)))
    (rw (c.from.ensures) at (c.from-tents.ensures ∙ c.row_number.ensures.value))
    (λ house of. (λ e. c.visit.ensures.left e house of, λ e. c.visit.ensures.broken e house of)) c.visit.ensures.alive c.visit.ensures.further
