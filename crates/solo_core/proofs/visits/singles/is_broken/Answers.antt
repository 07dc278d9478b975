use Rattle.std.proofs.lemmas.Grind.{common_steps}
use Rattle.solo_core.proofs.Common.{any_below-same, ap, arith, either-bits, length, lt-ltb, not, zero-bits, ◌∙◌, ◌≡◌}
use Rattle.solo_core.proofs.CrossingLemmas.{any-more, any-none}
use Rattle.solo_core.proofs.visits.singles.is_broken.Goals as goal

pub loop-j-init : goal.loop-j-init
loop-j-init c = (any-none _, λ v. zero-bits v ∙ any-none _)

pub loop-j-preserved : goal.loop-j-preserved
loop-j-preserved c = grind (arith, common_steps, any-more, either-bits, c.has_some.ensures)

pub returns-else-empty : goal.returns-else-empty
returns-else-empty c =
    let all : c.loop-j.j ≡ length c.args.sets.now = omega (arith, c.loop-j-test.false) in
    let none = rw (c.if-empty.false, all) at c.loop-j.invariant.0 in
    rw (← none) (c.has_some-else-empty.ensures ∙ any_below-same _ _ c.args.values
    (λ w lt. c.others_below.ensures w ∙ rw (lt-ltb _ _ lt, ← all) (ap not (c.loop-j.invariant.1 w))))
