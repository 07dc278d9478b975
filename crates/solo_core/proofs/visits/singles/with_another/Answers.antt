use Rattle.solo_core.proofs.Common.{arith, nat_tests, refl, zero-bits, ◌∙◌}
use Rattle.solo_core.proofs.CrossingLemmas.{any-more, any-none}
use Rattle.solo_core.proofs.BitLemmas.{bit_alone}
use Rattle.solo_core.proofs.visits.singles.with_another.Goals as goal

pub loop-value-init : goal.loop-value-init
loop-value-init c = λ v lt. zero-bits v ∙ any-none _

pub loop-value-preserved : goal.loop-value-preserved
loop-value-preserved c = λ v lt.
    let alone = bit_alone _ c.loop-value.value v (omega arith) refl in let others = c.others_below-all_others.ensures v in
    any-more _ _ (c.loop-value.invariant v lt) (grind (arith, nat_tests, alone, others, c.has_bit.ensures, c.with_more_if-others.ensures v))
