use Rattle.fields_core.proofs.Common.{Columns, Rows, Squares, Trees, all_of_kind, append_assoc, refl, sym, ◌++◌}
use Rattle.fields_core.proofs.TentTouching.{filled-or-dead, visited-apart}
use Rattle.fields_core.proofs.planes.tents.tent_notes.TentNotes.visit.Goals as goal

pub returns-then-visit_column-clause-visited : goal.returns-then-visit_column-clause-visited
returns-then-visit_column-clause-visited g c =
    let p = c.args.puzzle.now in
    rw (c.in-Columns.is) (visited-apart p Columns c.requires.field.lawful c.requires.field.size (rw c.if-visit_column.true at c.visit_column.ensures) c.are_apart.ensures
    (all_of_kind p Rows ++ all_of_kind p Trees) (sym (append_assoc (all_of_kind p Rows) (all_of_kind p Trees) (all_of_kind p Squares))))

pub returns-else-visit_column-clause-visited : goal.returns-else-visit_column-clause-visited
returns-else-visit_column-clause-visited g c = rw (c.in-Columns.is) (filled-or-dead c.args.puzzle.now Columns c.visit_column.ensures)

pub returns-then-visit_row-clause-visited : goal.returns-then-visit_row-clause-visited
returns-then-visit_row-clause-visited g c =
    let p = c.args.puzzle.now in
    rw (c.in-Rows.is) (visited-apart p Rows c.requires.field.lawful c.requires.field.size (rw c.if-visit_row.true at c.visit_row.ensures) c.are_apart-then-visit_row.ensures (all_of_kind p Trees) refl)

pub returns-else-visit_row-clause-visited : goal.returns-else-visit_row-clause-visited
returns-else-visit_row-clause-visited g c = rw (c.in-Rows.is) (filled-or-dead c.args.puzzle.now Rows c.visit_row.ensures)

pub returns-in-Trees-clause-visited : goal.returns-in-Trees-clause-visited
returns-in-Trees-clause-visited g c =
    rw (c.in-Trees.is) (filled-or-dead c.args.puzzle.now Trees (c.visit_trees.ensures c.args.puzzle.now (rw (c.deref.ensures.value) c.requires.field)))

pub returns-in-Squares-clause-visited : goal.returns-in-Squares-clause-visited
returns-in-Squares-clause-visited g c = rw (c.in-Squares.is) (filled-or-dead c.args.puzzle.now Squares c.visit_squares.ensures)
