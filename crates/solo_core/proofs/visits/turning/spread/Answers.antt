use Rattle.solo_core.proofs.Common.{arith}
use Rattle.solo_core.proofs.PartLemmas.{back-more, back-skip}
use Rattle.solo_core.proofs.visits.turning.spread.Goals as goal

pub loop-value-preserved-then-leads-value-ne0 : goal.loop-value-preserved-then-leads-value-ne0
loop-value-preserved-then-leads-value-ne0 c = record {
  grows = omega (arith, c.loop-value.invariant.grows, c.with_new_bit-more.ensures.grows);
  back =
      back-more c.args.leads.now c.loop-value.invariant.back c.in-Some.value c.in-Some.ensures.1 _ c.without_bit-left.ensures.bits
      c.requires.after c.requires.before (omega arith) c.if-leads-value-ne0.true c.with_new_bit-more.ensures.bits;
}

pub loop-value-preserved : goal.loop-value-preserved
loop-value-preserved c = record {
  grows = c.loop-value.invariant.grows;
  back =
      back-skip c.args.leads.now c.loop-value.invariant.back c.in-Some.value c.in-Some.ensures.1 _ c.without_bit-left.ensures.bits
      c.if-leads-value-ne0.false;
}
