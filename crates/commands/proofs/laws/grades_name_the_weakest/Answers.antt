use Rattle.commands.proofs.RuleSetOrder.{weakest}
use Rattle.commands.proofs.laws.grades_name_the_weakest.Goals as goal

pub returns : goal.returns
returns c = weakest
