use Rattle.engine_core.proofs.Common.{but}
use Rattle.engine_core.proofs.waits.dequeue_if.Goals as goal

pub returns-then-settled : goal.returns-then-settled
unfolding but
returns-then-settled c = λ j. rw c.if-settled.true (c.dequeue.ensures j)
