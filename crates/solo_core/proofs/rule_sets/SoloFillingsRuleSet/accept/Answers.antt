use Rattle.solo_core.proofs.RepeatLemmas.{solo_tells}
use Rattle.solo_core.proofs.rule_sets.SoloFillingsRuleSet.accept.Goals as goal

pub returns-clause-solution : goal.returns-clause-solution
returns-clause-solution c = solo_tells _ c.check_solo.ensures.lawful _ c.requires.fits _ _ c.check_solo.ensures.fault c.is_none.ensures
