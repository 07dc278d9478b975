use Rattle.commands.proofs.BatchLemmas.{last_answered, last_begun, last_stopped, on_any_err}
use Rattle.commands.proofs.Common.{on_err_weaker, on_ok_weaker}
use Rattle.commands.proofs.batch.Batch.answer_last.Goals as goal

pub returns-in_err-answer_rest-clause-begun : goal.returns-in_err-answer_rest-clause-begun
returns-in_err-answer_rest-clause-begun g c = on_any_err c.from_residual.result (λ answers start seen b.
    last_stopped answers b)

pub returns-clause-whole : goal.returns-clause-whole
returns-clause-whole g c = on_ok_weaker c.put_answers.result (λ put start seen b.
    rw c.put_answers.ensures.status (last_answered g.met.O.Sink.takes_both b.took (c.in_ok-answer_rest.ensures seen b.written b.gathered) put))
    c.put_answers.ensures.put

pub returns-clause-begun : goal.returns-clause-begun
returns-clause-begun g c = on_err_weaker c.put_answers.result (λ begun answers start seen b.
    last_begun g.met.O.Sink.takes_both _ b.took (c.in_ok-answer_rest.ensures seen b.written b.gathered) begun)
    c.put_answers.ensures.begun
