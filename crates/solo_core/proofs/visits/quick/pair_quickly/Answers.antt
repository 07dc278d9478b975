use Rattle.solo_core.proofs.Common.{arith, nat_tests, ℕ}
use Rattle.solo_core.proofs.BitLemmas.{bits-without}
use Rattle.solo_core.proofs.visits.quick.pair_quickly.Goals as goal

pub loop-i-preserved : goal.loop-i-preserved
loop-i-preserved c =
    let value = c.in-Some.value in
    let left = λ (v : ℕ). bits-without c.loop-i.free c.with_bit.result v (omega arith) (omega arith) in
    record {
      as_many = c.in-Some.ensures.more;
      below = λ v on. c.loop-i.invariant.below v (grind (arith, left v));
      begun = c.in-Some.ensures.on.1 _ (λ v on. grind (arith, left v))
          (grind (arith, nat_tests, left value, c.with_bit.ensures value));
    }
