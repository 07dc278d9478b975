use Rattle.fields_core.proofs.Common.{column_runs_of_column, joined_in_column, joined_in_row, map, refl, row_runs_of_row, ◌*◌, ◌+◌, ◌≡◌}
use Rattle.fields_core.proofs.LightRunOrder.{column-runs-of, column-words, row-runs-of, row-words}
use Rattle.fields_core.proofs.planes.light_up.tables.LightTables.visit_runs.Goals as goal

pub returns-in-Rows : goal.returns-in-Rows
returns-in-Rows g c =
    let p = c.args.puzzle.now in let of = c.requires.planes in
    let y = c.args.line in let w_is = c.columns-w.ensures.value in
    let first : c.from-at.result * c.columns-w.result ≡ y * p.size.w = rw (c.from-at.ensures, w_is) refl in
    rw (c.in-Rows.is) (c.visit_line.ensures p.size.w (λ k. y * p.size.w + k) (λ j k. joined_in_row p (y * p.size.w + j) (y * p.size.w + k)) (row_runs_of_row p y)
    (rw (of.size) refl) (rw (of.size) (row-runs-of p y of.lawful))
    (row-words p y (map g.W.Word.bits c.deref.result.now) first refl (rw (c.in-Rows.is) at c.requires.line_in)
    (rw (c.deref.ensures.value) c.requires.tables.runs.in_row)))

pub returns-in-Columns : goal.returns-in-Columns
returns-in-Columns g c =
    let p = c.args.puzzle.now in let of = c.requires.planes in
    let x = c.args.line in let x_in = rw (c.in-Columns.is) at c.requires.line_in in
    rw (c.in-Columns.is) (c.visit_line-in-Columns.ensures p.size.h (λ k. k * p.size.w + x) (λ j k. joined_in_column p (j * p.size.w + x) (k * p.size.w + x)) (column_runs_of_column p x)
    (rw (of.size) refl) (rw (of.size) (column-runs-of p x of.lawful x_in))
    (column-words p (map g.W.Word.bits c.deref-in-Columns.result.now) c.from-at.ensures c.columns-w.ensures.value refl x_in
    (rw (c.deref-in-Columns.ensures.value) c.requires.tables.runs.in_column)))
