use Rattle.engine_core.proofs.Common.{arith, has, sym, ◌∙◌}
use Rattle.engine_core.proofs.JudgeLemmas.{pick-in, pick-ends}
use Rattle.engine_core.proofs.trail.cells.best_cell.Goals as goal

pub better_cell-best-requires-clause-best_in : goal.better_cell-best-requires-clause-best_in
better_cell-best-requires-clause-best_in c = pick-in c.loop-cell.best c.loop-cell.cell _ _ _ c.loop-cell.invariant (omega (arith, c.requires.cells_in))

pub returns-then-count-eq2 : goal.returns-then-count-eq2
returns-then-count-eq2 c =
    let b = c.args.board.now in
    pick-ends b.values (has b) c.loop-cell.invariant c.better_cell-best.ensures (sym c.count-count.ensures ∙ c.if-count-eq2.true) (omega arith)
