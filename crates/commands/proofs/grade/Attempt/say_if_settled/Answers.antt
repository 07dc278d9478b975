use Rattle.commands.proofs.Common.{sym, ◌∙◌}
use Rattle.commands.proofs.GradeLemmas.{said_first}
use Rattle.commands.proofs.grade.Attempt.say_if_settled.Goals as goal

pub returns-clause-said : goal.returns-clause-said
returns-clause-said g c = record {
  answer = λ rest. said_first _ c.args.puzzle.now c.args.self.options.budget c.args.self.options.traced g.O.Sink.takes _ _ _
      c.args.self.set rest (sym c.is_settled_by.ensures.settled ∙ c.if-not-is_settled_by.false)
      (record { lawful = g.met.R.Rules.lawful c.args.rules.now; accepted = c.requires.accepted }) c.say.ensures.answer;
  left = c.say.ensures.left;
}
