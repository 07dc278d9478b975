use Rattle.solo_core.proofs.Common.{fillings_sound, true}
use Rattle.solo_core.proofs.HouseLemmas.{kept-deciding}
use Rattle.solo_core.proofs.rule_sets.SoloFillingsRuleSet.filter.Goals as goal

pub returns-clause-kept : goal.returns-clause-kept
returns-clause-kept c = λ K are.
    let p = c.args.self.now.puzzle in
    kept-deciding true p (fillings_sound p c.args.self.now.is_solo) c.requires.house_in K are c.keep_houses.result
    (rw c.n.ensures.value at c.keep_houses.ensures.decided) (rw c.n.ensures.value at c.keep_houses.ensures.none)
