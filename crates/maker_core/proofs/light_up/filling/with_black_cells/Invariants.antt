use Rattle.maker_core.proofs.LightMakings.{AreCellsRewritten, black_cell, white_cell}
use Rattle.maker_core.proofs.light_up.filling.with_black_cells.Given as goal

abbrev pub invariant-loop-place : goal.invariant-loop-place
invariant-loop-place l = AreCellsRewritten l.fn.size (black_cell l.fn.black) white_cell l.place l.puzzle
