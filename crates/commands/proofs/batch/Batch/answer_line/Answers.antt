use Rattle.commands.proofs.Common.{strip_carriage_return}
use Rattle.commands.proofs.BatchLemmas.{gathers_line}
use Rattle.commands.proofs.batch.Batch.answer_line.Goals as goal

pub returns-clause-goes_on : goal.returns-clause-goes_on
returns-clause-goes_on c = λ seen written b.
    gathers_line _ _ seen written _ b
    (λ piece h. c.in_ok-reply.ensures (strip_carriage_return piece) (c.line-line.ensures piece h))
    c.in_ok-add_reply.ensures.added c.clear.ensures c.in_ok-add_reply.ensures.status
