use Rattle.pattern_core.proofs.Common.{arith, cases_eq, common_steps, drop_more}
use Rattle.pattern_core.proofs.RoomyLines.{roomy}
use Rattle.pattern_core.proofs.track.measured.Goals as goal

pub returns-clause-roomy : goal.returns-clause-roomy
returns-clause-roomy c = λ n small from.
    roomy c.loop-k.cells c.loop-k.longest n c.requires.positive (grind (arith, common_steps))
    (λ k lt. c.loop-k.invariant.1 k (omega arith)) (grind (arith, common_steps)) (omega arith)

pub loop-k-preserved : goal.loop-k-preserved
loop-k-preserved c = grind (arith, common_steps, drop_more, cases_eq, c.loop-k-test.true, c.from.ensures)
