use Rattle.std.proofs.lemmas.Grind.{common_steps}
use Rattle.std.proofs.Common.{arith}
use Rattle.commands.proofs.Common.{rules}
use Rattle.commands.proofs.GradeLemmas.{said_last}
use Rattle.commands.proofs.RunLemmas.{says_nothing}
use Rattle.commands.proofs.grade.Attempt.say_by.Goals as goal

pub returns-clause-answer : goal.returns-clause-answer
returns-clause-answer g c = grind (arith, common_steps, said_last, c.in_ok-grade.ensures.grade, c.in_ok-grade.ensures.right, c.say.ensures.answer)

pub returns-in_err-store-clause-answer : goal.returns-in_err-store-clause-answer
returns-in_err-store-clause-answer g c = says_nothing (g.met.O.Sink.takes_nothing _) (search rules)

pub returns-in_err-grade-clause-answer : goal.returns-in_err-grade-clause-answer
returns-in_err-grade-clause-answer g c = says_nothing (g.met.O.Sink.takes_nothing _) (search rules)
