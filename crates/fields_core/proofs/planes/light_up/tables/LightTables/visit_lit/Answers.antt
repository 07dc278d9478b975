use Rattle.fields_core.proofs.Common.{IsColumnRun, IsRowRun, arith, refl, sym, ◌∙◌}
use Rattle.fields_core.proofs.LightSafeCells.{table-read}
use Rattle.fields_core.proofs.LightLitVisits.{AreRunsAt, black-visited, house-of, lit-visited, pieces-in, some-cell}
use Rattle.fields_core.proofs.planes.light_up.tables.LightTables.visit_lit.Goals as goal
use Rattle.fields_core.proofs.planes.light_up.tables.LightTables.visit_lit.Goals.{After-but-others}

runs : (g : _) (c : After-but-others g) → AreRunsAt c.args.puzzle.now c.args.y c.args.x (g.W.Word.bits c.index-row.result.now) (g.W.Word.bits c.index.result.now) (g.W.Word.bits c.but-others.result) c.args.planes.now g.W.Word.room
runs g c =
    let p = c.args.puzzle.now in let of = c.requires.planes in
    let tables = c.args.self.now in let are = c.requires.tables.runs in
    record {
      lawful = of.lawful;
      y_in = c.requires.y_in;
      x_in = c.requires.x_in;
      row_is = table-read g.W.Word.bits p (IsRowRun p) tables.row_runs.items _ are.long_rows are.in_row c.requires.y_in c.requires.x_in
          (rw (c.from.ensures, c.from-2.ensures, c.columns.ensures.value) refl) c.index-row.ensures;
      column_is = table-read g.W.Word.bits p (IsColumnRun p) tables.column_runs.items _ are.long_columns are.in_column c.requires.y_in c.requires.x_in
          (rw (c.from.ensures, c.from-2.ensures, c.columns.ensures.value) refl) c.index.ensures;
      others_is = λ k. c.but-others.ensures k ∙ rw (c.one.ensures k, c.from-3.ensures) refl;
      size = of.size;
      alive = of.alive;
      wide = of.narrow;
      tall = of.low;
    }

pub overflow_add-count : goal.overflow_add-count
overflow_add-count g c =
    let is = house-of (runs g (goal.at.overflow_add-count g c).After-but-others) (sym c.is_some.ensures ∙ c.if-not-is_some.false) in
    omega (arith, is.is.few_places, is.most_is, c.count.ensures, c.count-else-not-is_some.ensures)

pub visit-requires-clause-pieces : goal.visit-requires-clause-pieces
visit-requires-clause-pieces g c = pieces-in (runs g (goal.at.visit-requires-clause-pieces g c).After-but-others)

pub visit-requires-clause-order : goal.visit-requires-clause-order
visit-requires-clause-order g c =
    let some = some-cell (runs g (goal.at.visit-requires-clause-order g c).After-but-others) (sym c.is_some.ensures ∙ c.if-not-is_some.false) in
    omega (arith, some, c.count.ensures, c.count-else-not-is_some.ensures)

pub returns-then-not-is_some : goal.returns-then-not-is_some
returns-then-not-is_some g c =
    rw (c.if-not-is_some.true) (black-visited (runs g (goal.at.returns-then-not-is_some g c).After-but-others) (sym c.is_some.ensures ∙ c.if-not-is_some.true))

pub returns-else-not-is_some : goal.returns-else-not-is_some
returns-else-not-is_some g c =
    lit-visited (runs g (goal.at.returns-else-not-is_some g c).After-but-others) (sym c.is_some.ensures ∙ c.if-not-is_some.false)
    (rw (← c.count.ensures, ← c.count-else-not-is_some.ensures) (λ house of. (λ e. c.visit.ensures.left e house of, λ e. c.visit.ensures.broken e house of)))
    c.visit.ensures.alive c.visit.ensures.further
