use Rattle.commands.proofs.Common.{AllowsTask, inl, inr, refl}
use Rattle.commands.proofs.BatchLemmas.{ran_answered, ran_begun, ran_stopped}
use Rattle.commands.proofs.GameLaws.{answers}
use Rattle.commands.proofs.RunLemmas.{is_late}
use Rattle.commands.proofs.batch.answer_lines.Goals as goal

pub returns-in_err-take_input-clause-ran : goal.returns-in_err-take_input-clause-ran
returns-in_err-take_input-clause-ran g c = ran_stopped g.met.O.Sink.takes_both (AllowsTask c.args.task)
    _ _ (is_late _ _ c.from_residual.ensures) (c.in_err-take_input.ensures.stopped (answers c.args.task.game c.args.task.budget))

pub returns-in_err-answer_last-clause-ran : goal.returns-in_err-answer_last-clause-ran
returns-in_err-answer_last-clause-ran g c =
    let t = c.in_ok-take_input.ensures.taken in
    ran_begun g.met.O.Sink.takes_both (AllowsTask c.args.task)
    _ _ (is_late _ _ c.from_residual-in_err-answer_last.ensures)
    c.in_ok-take_input.ensures.ended t.gave (c.in_err-answer_last.ensures.begun (answers c.args.task.game c.args.task.budget) c.args.output.now t.seen t.is)

pub returns-then-finish-clause-ran : goal.returns-then-finish-clause-ran
returns-then-finish-clause-ran g c =
    let t = c.in_ok-take_input.ensures.taken in
    ran_answered g.met.O.Sink.takes_both (AllowsTask c.args.task) (inl refl) c.in_ok-take_input.ensures.ended t.gave
    (c.in_ok-answer_last.ensures.whole c.args.output.now t.seen t.is) c.if-finish.ensures.bytes

pub returns-else-finish-clause-ran : goal.returns-else-finish-clause-ran
returns-else-finish-clause-ran g c =
    let t = c.in_ok-take_input.ensures.taken in
    ran_answered g.met.O.Sink.takes_both (AllowsTask c.args.task) (inr refl) c.in_ok-take_input.ensures.ended t.gave
    (c.in_ok-answer_last.ensures.whole c.args.output.now t.seen t.is) c.if-finish.ensures.bytes
