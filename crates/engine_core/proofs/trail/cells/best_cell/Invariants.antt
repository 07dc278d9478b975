use Rattle.engine_core.proofs.Common.{has, pick, ◌≡◌}
use Rattle.engine_core.proofs.trail.cells.best_cell.Given as goal

abbrev pub invariant-loop-cell : goal.invariant-loop-cell
invariant-loop-cell l = l.best ≡ pick l.cell l.board.values (has l.board)
