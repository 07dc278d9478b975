use Rattle.fields_core.proofs.Common.{Bool, Extent, IsRowOf, ap, arith, cases_Bool, common_steps, is_numbered, length, length-set, ltb, not, white, ◌&&◌, ◌*◌, ◌+◌, ◌<◌, ◌∙◌, ◌≡◌}
use Rattle.fields_core.proofs.LightRuleLemmas.{light-board}
use Rattle.fields_core.proofs.RuleLemmas.{row-blocked, start-all}
use Rattle.fields_core.proofs.LightRunWords.{rows-written}
use Rattle.fields_core.proofs.CellLemmas.{rows-more}
use Rattle.fields_core.proofs.planes.light_up.tables.LightTables.start_rows.Goals as goal

others : (a b : Bool) → (a && not (a && b)) ≡ (a && not b)
others a b = grind (arith, common_steps, cases_Bool a)

pub loop-y-preserved : goal.loop-y-preserved
loop-y-preserved g c =
    let i = c.loop-y.invariant in let p = c.args.puzzle.now in
    let bits = g.W.Word.bits in let y = c.loop-y.y in
    let w_is = c.columns-w.ensures.value in
    let low : y < p.size.h = (let lt = c.loop-y-test.true in omega (arith, c.rows-y-end.ensures)) in
    let in_rows : y < length c.loop-y.self.rows.items = omega (arith, low, c.requires.low, c.requires.room.rows, i.long_rows) in
    let in_numbers : y < length c.loop-y.self.numbers.items = omega (arith, low, c.requires.low, c.requires.room.numbers, i.long_numbers) in
    let told = c.cells_of_row-whites.ensures in
    record {
      started = row-blocked y (bits c.but.result) (light-board c.columns-w.ensures.lawful).some (ap (λ (s : Extent). s.w) i.size) i.started
          c.take.ensures.left
          (λ x. c.but.ensures x ∙ rw (c.columns.ensures x, told.whites x, i.size) (others (ltb x p.size.w) (white p (y * p.size.w + x))));
      size = c.take.ensures.further.same_size ∙ i.size;
      steps = c.take.ensures.further.same_room ∙ i.steps;
      rows = rows-more bits c.loop-y.self.rows.items y (IsRowOf p.size.w (white p)) _ in_rows i.rows told.whites;
      numbers = rows-more bits c.loop-y.self.numbers.items y (IsRowOf p.size.w (is_numbered p)) _ in_numbers i.numbers told.numbers;
      runs = rows-written p y (bits c.cells_of_row-whites.result.0) _ _ told.whites i.runs (rw w_is at c.write_runs.ensures.written);
      columns = i.columns;
      column_runs = i.column_runs;
      long_rows = length-set _ _ _ ∙ i.long_rows;
      long_numbers = length-set _ _ _ ∙ i.long_numbers;
      long_runs = c.write_runs.ensures.long ∙ i.long_runs;
    }

pub returns-clause-start : goal.returns-clause-start
returns-clause-start g c = grind (arith, common_steps, start-all, c.loop-y.invariant, c.loop-y.auto.y-end, c.loop-y-test.false, c.rows-y-end.ensures)
