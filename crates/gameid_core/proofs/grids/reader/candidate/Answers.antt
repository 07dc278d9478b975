use Rattle.gameid_core.specs.Common.{Some, ap, ap₂, arith, length, length-replicate, subst, sym, ℕ, ◌*◌, ◌<◌, ◌∙◌}
use Rattle.gameid_core.proofs.PrintedGrids.{LeftOf, all_rows_left, is_shown, row_first, same_grid}
use Rattle.gameid_core.proofs.grids.reader.candidate.Goals as goal

pub loop-y-init : goal.loop-y-init
loop-y-init g c = record {
  cells = ap length c.in_ok-grid.ensures ∙ length-replicate _ _ ∙ ap₂ (λ (a b : ℕ). a * b) c.columns.ensures.value c.rows.ensures.value;
  fit = λ place lt. absurd (omega arith);
  read = λ grid more shown is. (all_rows_left _ _ more _ is, λ place lt. absurd (omega arith));
}

pub returns-in-None-clause-read : goal.returns-in-None-clause-read
returns-in-None-clause-read g c grid more shown is =
    let so_far = c.loop-y.invariant.read grid more shown is in
    let next = row_first _ _ more _ _ (let l : c.loop-y.y < (g.P.Printed.extent c.args.puzzle.now).h = omega arith in l) so_far.0 in
    absurd (c.in-None.ensures.read grid next.after shown next.split so_far.1).0

pub loop-y-preserved : goal.loop-y-preserved
loop-y-preserved g c = record {
  cells = c.in-Some.ensures.cells ∙ c.loop-y.invariant.cells;
  fit = c.in-Some.ensures.fit c.loop-y.invariant.fit;
  read = λ grid more shown is.
      let so_far = c.loop-y.invariant.read grid more shown is in
      let next = row_first _ _ more _ _ (let l : c.loop-y.y < (g.P.Printed.extent c.args.puzzle.now).h = omega arith in l) so_far.0 in
      let row = c.in-Some.ensures.read grid next.after shown next.split so_far.1 in
      (subst (LeftOf _ _ more _) (sym row.0) next.left, row.1);
}

pub returns-clause-shown : goal.returns-clause-shown
returns-clause-shown g c = is_shown c.loop-y.y (omega arith) (omega arith) c.loop-y.invariant.cells c.loop-y.invariant.fit

pub returns-clause-read : goal.returns-clause-read
returns-clause-read g c grid more shown is =
    ap Some (same_grid _ _ _ _ grid c.loop-y.y (omega arith) (omega arith) c.loop-y.invariant.cells shown (c.loop-y.invariant.read grid more shown is).1)
