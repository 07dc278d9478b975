use Rattle.commands.proofs.BatchLemmas.{gathers_last, gathers_none}
use Rattle.commands.proofs.batch.Batch.answer_rest.Goals as goal

pub returns-then-is_empty : goal.returns-then-is_empty
returns-then-is_empty c = λ seen written b. gathers_none b c.if-is_empty.ensures

pub returns : goal.returns
returns c = λ seen written b.
    gathers_last c.add_reply.new.self _ b c.if-is_empty.ensures
    (λ piece h. c.in_ok-reply.ensures piece (c.line-line.ensures piece h))
    c.in_ok-add_reply.ensures.added c.in_ok-add_reply.ensures.status
