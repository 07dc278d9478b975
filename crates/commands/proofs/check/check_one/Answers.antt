use Rattle.commands.proofs.Common.{Memory, arith, rules, ◌≢◌}
use Rattle.commands.proofs.Readings.{refused_id}
use Rattle.commands.proofs.RunLemmas.{ran_if_any_by_telling, ran_if_any_unwritten}
use Rattle.commands.proofs.check.check_one.Goals as goal

pub returns-in-Err-Memory-clause-ran : goal.returns-in-Err-Memory-clause-ran
returns-in-Err-Memory-clause-ran g c =
    ran_if_any_unwritten _ (omega arith) (g.met.I.Source.gives_nothing c.args.input.now)
    (g.met.O.Sink.takes_nothing c.args.output.now)

pub returns-in-Err-clause-ran : goal.returns-in-Err-clause-ran
returns-in-Err-clause-ran g c =
    let other : c.in-Err.fault ≢ Memory = search rules in
    ran_if_any_by_telling _ (g.met.I.Source.gives_nothing c.args.input.now)
    (λ input answer told. refused_id _ other c.in-Err.ensures.fault told) c.refuse.ensures.answer
