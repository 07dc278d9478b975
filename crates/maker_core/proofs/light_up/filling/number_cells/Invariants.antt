use Rattle.maker_core.proofs.Common.{numbered_cell}
use Rattle.maker_core.proofs.LightMakings.{AreCellsRewritten, old_cell}
use Rattle.maker_core.proofs.light_up.filling.number_cells.Given as goal

abbrev pub invariant-loop-place : goal.invariant-loop-place
invariant-loop-place l = AreCellsRewritten l.fn.puzzle.size (numbered_cell l.fn.puzzle l.fn.grid) (old_cell l.fn.puzzle) l.place l.puzzle
