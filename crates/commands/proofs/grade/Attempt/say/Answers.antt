use Rattle.commands.proofs.Common.{refl}
use Rattle.commands.proofs.GradeLemmas.{said_begun, said_whole}
use Rattle.commands.proofs.RunLemmas.{is_late}
use Rattle.commands.proofs.grade.Attempt.say.Goals as goal

pub returns-in_err-put_trace-clause-answer : goal.returns-in_err-put_trace-clause-answer
returns-in_err-put_trace-clause-answer g c = said_begun _ _ c.in_ok-text.ensures
    c.in_err-put_trace.ensures.begun (is_late _ _ c.from_residual-in_err-put_trace.ensures)

pub returns-clause-answer : goal.returns-clause-answer
returns-clause-answer g c = said_whole g.met.O.Sink.takes_both c.in_ok-text.ensures
    c.in_ok-put_trace.ensures.put c.deliver.ensures.delivers refl c.status-status.ensures
