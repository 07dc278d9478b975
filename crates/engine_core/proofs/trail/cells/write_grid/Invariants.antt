use Rattle.engine_core.proofs.Common.{grid_of, has, length, take, ◌≡◌}
use Rattle.engine_core.proofs.trail.cells.write_grid.Given as goal

abbrev pub invariant-loop-cell : goal.invariant-loop-cell
invariant-loop-cell l = record {
  long : length l.grid ≡ l.cells;
  same : take l.cell l.grid ≡ grid_of l.cell l.board.values (has l.board);
}
