use Rattle.maker_core.proofs.Common.{arith}
use Rattle.maker_core.proofs.TentsSolved.{free_all}
use Rattle.maker_core.proofs.tents.filling.free_cells.Goals as goal

pub returns : goal.returns
returns c = free_all _ _ _ c.loop-direction.invariant (omega arith)
