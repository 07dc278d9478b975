use Rattle.fields_core.proofs.Common.{sym, ◌∙◌}
use Rattle.fields_core.proofs.LightSeen.{column-sees, row-sees, seen-in-column, seen-in-row}
use Rattle.fields_core.proofs.LightHouseLaws.{some-column}
use Rattle.fields_core.proofs.light_up.sight.sees_a_bulb.Goals as goal

pub returns-then-sees_along : goal.returns-then-sees_along
returns-then-sees_along c =
    let p = c.args.puzzle.now in let row = c.row.ensures in
    let seen = rw (row.puzzle, row.first, row.stride, row.len, c.columns-w.ensures.value) at c.sees_along.ensures in
    let along = row-sees p c.args.grid.now c.sees_along.result (some-column p c.requires.place_in) c.requires.place_in seen in
    c.if-sees_along.true ∙ sym (seen-in-row p c.args.grid.now c.args.place (rw c.if-sees_along.true at along))

pub returns-else-sees_along : goal.returns-else-sees_along
returns-else-sees_along c =
    let p = c.args.puzzle.now in let g = c.args.grid.now in
    let row = c.row.ensures in let column = c.column.ensures in
    let wide = c.columns-w.ensures.value in let some = some-column p c.requires.place_in in
    let in_row = row-sees p g c.sees_along.result some c.requires.place_in (rw (row.puzzle, row.first, row.stride, row.len, wide) at c.sees_along.ensures) in
    let in_column = column-sees p g c.args.place c.sees_along-else-sees_along.result some
    (rw (column.puzzle, column.first, column.stride, column.len, wide) at c.sees_along-else-sees_along.ensures) in
    seen-in-column p g c.args.place c.sees_along-else-sees_along.result (rw c.if-sees_along.false at in_row) in_column
