use Rattle.commands.proofs.Common.{[], append-nil, sym}
use Rattle.commands.proofs.BatchLemmas.{on_any_err, step_begun, step_put}
use Rattle.commands.proofs.batch.Batch.take_chunk.Goals as goal

pub returns-in_err-put_answers-clause-stopped : goal.returns-in_err-put_answers-clause-stopped
returns-in_err-put_answers-clause-stopped g c = on_any_err c.from_residual.result (λ answers start seen b.
    step_begun g.met.O.Sink.takes_both b.took (c.take_bytes-taken.ensures.up_to answers seen b.written b.gathered)
    c.in_err-put_answers.ensures.begun)

pub returns-in_err-taken-clause-stopped : goal.returns-in_err-taken-clause-stopped
returns-in_err-taken-clause-stopped g c = on_any_err c.from_residual-in_err-taken.result (λ answers start seen b.
    step_begun g.met.O.Sink.takes_both b.took (c.take_bytes-taken.ensures.up_to answers seen b.written b.gathered)
    (record { done = c.take_bytes-taken.new.self.answers.items; took = c.in_ok-put_answers.ensures.put; begun = ([], sym (append-nil _)) }))

pub returns-clause-goes_on : goal.returns-clause-goes_on
returns-clause-goes_on g c = λ start seen b.
    step_put g.met.O.Sink.takes_both b.took (c.in_ok-taken.ensures.goes_on seen b.written b.gathered)
    c.in_ok-put_answers.ensures.put c.in_ok-put_answers.ensures.none c.put_answers.ensures.line c.put_answers.ensures.status
