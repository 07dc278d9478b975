use Rattle.pattern_core.proofs.Common.{arith}
use Rattle.pattern_core.proofs.LineWords.{sets-are}
use Rattle.pattern_core.proofs.planes.filter.Cells.write.Goals as goal

pub returns : goal.returns
returns g c = sets-are _ _ _ c.loop-k.invariant.0 (λ k lt. c.loop-k.invariant.1 k (omega arith))
