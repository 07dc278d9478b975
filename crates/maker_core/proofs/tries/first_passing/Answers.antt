use Rattle.maker_core.proofs.Common.{arith, sym, ◌∙◌}
use Rattle.maker_core.proofs.FirstTries.{IsTrying-more, first_is}
use Rattle.maker_core.proofs.tries.first_passing.Goals as goal

pub returns-then-passes-clause-first : goal.returns-then-passes-clause-first
returns-then-passes-clause-first g c =
    let made = c.in_ok-filling.ensures in
    first_is _ _ _ c.loop-attempt.invariant made.drawn (sym made.verdict ∙ c.if-passes.true) (omega (arith, c.requires, c.loop-attempt-test.true))

pub loop-attempt-preserved : goal.loop-attempt-preserved
loop-attempt-preserved g c =
    let made = c.in_ok-filling.ensures in
    IsTrying-more _ _ _ c.loop-attempt.invariant made.drawn (sym made.verdict ∙ c.if-passes.false) (rw c.if-passes.false at made.known)
