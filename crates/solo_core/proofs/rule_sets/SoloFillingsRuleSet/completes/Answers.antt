use Rattle.std.proofs.Common.{sym}
use Rattle.solo_core.proofs.HouseLemmas.{closed-solution}
use Rattle.solo_core.proofs.rule_sets.SoloFillingsRuleSet.completes.Goals as goal

pub returns-clause-solution : goal.returns-clause-solution
returns-clause-solution c = sym (closed-solution c.args.self.now.puzzle c.args.self.now.is_solo c.requires.closed)
