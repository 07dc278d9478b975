use Rattle.engine_core.proofs.Common.{arith, length, replicate, rules, ◌≡◌}
use Rattle.engine_core.proofs.QueueLemmas.{woken-by}
use Rattle.engine_core.proofs.MarkLemmas.{waiting-all}
use Rattle.engine_core.proofs.closing.marking.mark_after.Goals as goal

pub returns-then-not-by_queue-clause-sweeps : goal.returns-then-not-by_queue-clause-sweeps
returns-then-not-by_queue-clause-sweeps g c = λ sweeps j lt.
    let made : c.fill.new.self ≡ replicate (length c.args.waits.now) 18446744073709551615 = search rules in
    rw made (waiting-all (length c.args.waits.now) j (omega (arith, c.requires.room)))

pub returns-clause-queue : goal.returns-clause-queue
returns-clause-queue g c = λ queue K before are inside cleared.
    woken-by cleared (c.mark_changed.ensures K (rw c.scope_len.ensures are) inside)
    (λ j. rw (c.SETTLED.ensures, ← (g.met.R.Rules.settled_is c.args.rules.now)) at (c.dequeue_if.ensures j))
