use Rattle.gameid_core.specs.Common.{ap, arith, length, length-set, refl, ◌*◌, ◌+◌, ◌<◌, ◌∙◌}
use Rattle.gameid_core.proofs.PrintedGrids.{all_left, known_cell, cell_read, cell_not_missed, fit_more, agree_more, in_grid}
use Rattle.gameid_core.proofs.grids.reader.read_row.Goals as goal

pub loop-x-init : goal.loop-x-init
loop-x-init g c = record {
  cells = refl;
  fit = λ fits place lt. fits place (omega arith);
  read = λ grid more shown is agree. (
    rw c.columns-w.ensures.value
        (all_left (λ x. g.P.Printed.cell_text c.args.puzzle.now grid
        (c.args.y * (g.P.Printed.extent c.args.puzzle.now).w + x)) _ more _ is),
    λ place lt. agree place (omega arith),
  );
}

pub loop-x-preserved : goal.loop-x-preserved
loop-x-preserved g c =
    let within : c.args.y * c.columns-w.result + c.loop-x.x < length c.loop-x.grid =
    in_grid (g.P.Printed.extent c.args.puzzle.now) _ _ _ _ c.columns-w.ensures.value
    c.loop-x-test.true c.requires.row (c.loop-x.invariant.cells ∙ c.requires.cells) in
    record {
      cells = ap length c.set.ensures ∙ length-set _ _ _ ∙ c.loop-x.invariant.cells;
      fit =
          λ fits. fit_more _ c.loop-x.grid _ within c.set.ensures (omega arith)
          (c.loop-x.invariant.fit fits) c.in_ok-value.ensures.range c.in_ok-value.ensures.hidden;
      read = λ grid more shown is agree.
          let so_far = c.loop-x.invariant.read grid more shown is agree in
          let known =
          known_cell (g.P.Printed.cell_text c.args.puzzle.now grid)
          (g.P.Printed.extent c.args.puzzle.now) c.args.y more c.columns-w.ensures.value
          c.loop-x-test.true so_far.0
          (λ after follows split. c.in_ok-value.ensures.read grid after shown follows split) in
          let next = cell_read c.in_ok-value.value c.in_ok-value.count known refl refl in
          (next.0, agree_more c.loop-x.grid _ grid within c.set.ensures (omega arith) so_far.1 next.1);
    }

pub returns-in_err-value-clause-read : goal.returns-in_err-value-clause-read
returns-in_err-value-clause-read g c grid more shown is agree =
    let so_far = c.loop-x.invariant.read grid more shown is (rw c.columns-w.ensures.value agree) in
    let known =
    known_cell (g.P.Printed.cell_text c.args.puzzle.now grid)
    (g.P.Printed.extent c.args.puzzle.now) c.args.y more c.columns-w.ensures.value
    c.loop-x-test.true so_far.0
    (λ after follows split. c.in_err-value.ensures.read grid after shown follows split) in
    absurd (cell_not_missed known refl)
