use Rattle.pattern_core.proofs.Common.{arith}
use Rattle.pattern_core.proofs.LineTakings.{longest-side}
use Rattle.pattern_core.proofs.lines.PatternLinesRules.longest.Goals as goal

pub returns : goal.returns
returns c =
    let w = rw c.size.ensures at c.w.ensures.value in let h = rw c.size-2.ensures at c.h.ensures.value in
    longest-side c.args.self.now.extent (omega (arith, c.from.ensures, c.max.ensures, w, h)) (omega (arith, c.from.ensures, c.max.ensures, w, h))
    (λ n wide high. omega (arith, c.from.ensures, c.max.ensures, w, h, wide, high))
