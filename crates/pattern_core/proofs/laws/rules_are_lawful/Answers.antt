use Rattle.pattern_core.proofs.Common.{line_rules-lawful}
use Rattle.pattern_core.proofs.laws.rules_are_lawful.Goals as goal

pub returns : goal.returns
returns c = λ p is. line_rules-lawful p is.size
