use Rattle.pattern_core.proofs.Common.{arith, cases_Bool, common_steps, false, sym, ◌∙◌, ◌≡◌}
use Rattle.pattern_core.proofs.WaitingLines.{none-marked}
use Rattle.pattern_core.proofs.planes.waits.LinesWaiting.next.Goals as goal

pub returns-else-has_columns : goal.returns-else-has_columns
returns-else-has_columns g c = λ line lt.
    let columns = c.if-has_columns.false in
    let rows : c.is_some-has_rows.result ≡ false = grind (arith, common_steps, cases_Bool, c.if-has_rows-in_rows.false, columns) in
    none-marked g.W.Word.room g.W.Word.bits c.args.self line (sym c.is_some-has_columns.ensures ∙ columns) (sym c.is_some-has_rows.ensures ∙ rows) lt
