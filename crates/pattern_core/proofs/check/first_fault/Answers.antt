use Rattle.pattern_core.proofs.Common.{ap, arith}
use Rattle.pattern_core.proofs.FaultLemmas.{first_row, not_right}
use Rattle.pattern_core.proofs.check.first_fault.Goals as goal

pub returns-in-loop-line : goal.returns-in-loop-line
returns-in-loop-line c =
    let w = ap (λ s. s.w) c.size-size.ensures.value in let h = ap (λ s. s.h) c.size-size.ensures.value in
    first_row _ _ _ (omega arith) (omega arith)
    (not_right _ _ c.loop-line.line (grind arith)) c.loop-line.invariant
