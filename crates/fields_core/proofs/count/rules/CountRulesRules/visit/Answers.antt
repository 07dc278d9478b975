use Rattle.fields_core.proofs.Common.{after, after_house}
use Rattle.fields_core.proofs.count.rules.CountRulesRules.visit.Goals as goal

pub returns-clause-left : goal.returns-clause-left
unfolding after_house after
returns-clause-left g c = rw c.house.ensures at c.strike.ensures.left
