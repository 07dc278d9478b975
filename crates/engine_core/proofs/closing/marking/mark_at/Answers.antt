use Rattle.engine_core.proofs.Common.{arith}
use Rattle.engine_core.proofs.QueueLemmas.{before-first, before-marked, before-all}
use Rattle.engine_core.proofs.closing.marking.mark_at.Goals as goal

pub loop-other-init : goal.loop-other-init
loop-other-init g c = record { past = omega arith; woken = before-first _ }

pub loop-other-preserved : goal.loop-other-preserved
loop-other-preserved g c = record {
  past = let i = c.loop-other.invariant in let next = c.in-Some.ensures in omega (arith, i.past, next.0);
  woken = before-marked _ c.loop-other.from c.in-Some.house c.in-Some.ensures c.enqueue.ensures c.loop-other.invariant.woken;
}

pub returns : goal.returns
returns g c =
    before-all c.loop-other.from
    (λ j le lt. absurd (let i = c.loop-other.invariant in omega (arith, i.past)))
    c.loop-other.invariant.woken

pub returns-in_default : goal.returns-in_default
returns-in_default g c = before-all c.loop-other.from (rw c.in_default.is at c.house_at.ensures) c.loop-other.invariant.woken
