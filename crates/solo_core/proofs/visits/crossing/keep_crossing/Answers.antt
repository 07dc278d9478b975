use Rattle.solo_core.proofs.Common.{arith, has_bit, leb, length-set, ltb, not, ◌&&◌, ◌∙◌}
use Rattle.solo_core.proofs.CrossingLemmas.{crossing-decided, bits-more}
use Rattle.solo_core.proofs.visits.crossing.keep_crossing.Goals as goal

pub returns : goal.returns
returns c = λ values. crossing-decided (λ k. ltb k c.args.block && not (has_bit c.args.shared k)) (λ k. leb c.args.block k) _ _
    c.values_in_block-in_block.ensures c.values_in_line-in_line.ensures c.loop-k.invariant.as_many (λ k v lk. c.loop-k.invariant.bits k v (omega arith))

pub loop-k-preserved : goal.loop-k-preserved
loop-k-preserved c = record {
  as_many = length-set c.loop-k.kept c.loop-k.k c.without_lost.result ∙ c.loop-k.invariant.as_many;
  bits =
      bits-more _
      c.loop-k.kept c.loop-k.k c.without_lost.result (omega (arith, c.loop-k.invariant.as_many)) c.loop-k.invariant.bits
      (λ v. grind (arith, c.without_lost.ensures v, c.is_block_alone.ensures, c.without_lost-left.ensures v));
}
