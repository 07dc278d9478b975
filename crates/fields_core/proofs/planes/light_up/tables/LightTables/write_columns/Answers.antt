use Rattle.fields_core.proofs.Common.{IsColumnOf, arith, length, length-map, length-set, mod-lt, white, ◌<◌, ◌∙◌, ◌≡◌}
use Rattle.fields_core.proofs.LightRuleLemmas.{light-board}
use Rattle.fields_core.proofs.LightNumberVisits.{columns-more}
use Rattle.fields_core.proofs.LightRunWords.{column-whites, columns-written}
use Rattle.fields_core.proofs.planes.light_up.tables.LightTables.write_columns.Goals as goal

pub loop-x-preserved : goal.loop-x-preserved
loop-x-preserved g c =
    let i = c.loop-x.invariant in let p = c.args.puzzle.now in
    let bits = g.W.Word.bits in let x = c.loop-x.x in
    let w_is = c.columns-w.ensures.value in let low : x < p.size.w = rw w_is at c.loop-x-test.true in
    let narrow = c.column-whites.ensures.lawful.narrow in
    let there : x < length c.loop-x.self.columns.items = omega (arith, low, rw (c.requires.size) at narrow, c.requires.room.columns, i.long_columns) in
    let whites : IsColumnOf p.size (white p) x (bits c.column-whites.result) = (
    column-whites p c.args.planes.now x (bits c.column-whites.result) c.requires.size c.requires.start low c.column-whites.ensures.cells c.column-whites.ensures.within
    ) in
    record {
      columns = columns-more bits c.loop-x.self.columns.items x p.size (white p) _ there i.columns whites;
      runs = columns-written p (bits c.column-whites.result) _ _ low whites i.runs (rw (w_is, c.rows.ensures) at c.write_runs.ensures.written);
      inside = omega (arith, there, length-set c.loop-x.self.columns.items x c.column-whites.result);
      rows = i.rows;
      numbers = i.numbers;
      row_runs = i.row_runs;
      long_columns = length-set _ _ _ ∙ i.long_columns;
      long_runs = c.write_runs.ensures.long ∙ i.long_runs;
    }

pub returns-clause-written : goal.returns-clause-written
returns-clause-written g c =
    let i = c.loop-x.invariant in let p = c.args.puzzle.now in
    let bits = g.W.Word.bits in let some = (light-board c.columns-w.ensures.lawful).some in
    let last : c.loop-x.x ≡ p.size.w = (let b = c.loop-x.auto.x-end in let e = c.loop-x-test.false in omega (arith, c.columns-w.ensures.value)) in
    let each = rw last at i.columns in let runs = rw last at i.runs in
    record {
      runs = record {
        long_rows = rw (i.row_runs) (omega (arith, length-map c.args.self.now.row_runs.items bits, c.requires.room.row_runs));
        long_columns = omega (arith, length-map c.loop-x.self.column_runs.items bits, i.long_runs, c.requires.room.column_runs);
        in_row = rw (i.row_runs) c.requires.rows.runs;
        in_column = λ k lt. runs k lt (mod-lt k some);
      };
      rows = rw (i.rows) c.requires.rows.rows;
      columns = record { long = omega (arith, length-map c.loop-x.self.columns.items bits, i.inside, last); each = each };
      numbers = rw (i.numbers) c.requires.rows.numbers;
    }
