use Rattle.std.proofs.lemmas.Grind.{common_steps}
use Rattle.pattern_core.proofs.Common.{arith}
use Rattle.pattern_core.proofs.LineWords.{sets-read, shown-more, shown-none}
use Rattle.pattern_core.proofs.planes.filter.Cells.of.Goals as goal

pub loop-k-init : goal.loop-k-init
loop-k-init g c = (shown-none _ _ c.none.ensures, shown-none _ _ c.none-2.ensures)

pub loop-k-preserved : goal.loop-k-preserved
loop-k-preserved g c = grind (arith, common_steps, shown-more, c.with_if-cells.ensures, c.with_if-cells-in-loop-k.ensures)

pub returns : goal.returns
returns g c =
    let i = c.loop-k.invariant in
    sets-read _ _ _ c.requires.small (λ k lt. i.0.below k (omega arith)) (λ k lt. i.1.below k (omega arith))
