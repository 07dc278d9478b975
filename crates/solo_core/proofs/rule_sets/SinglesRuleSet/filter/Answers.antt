use Rattle.solo_core.proofs.Common.{false, singles_sound, true, true≢false}
use Rattle.solo_core.proofs.HouseLemmas.{kept-deciding}
use Rattle.solo_core.proofs.rule_sets.SinglesRuleSet.filter.Goals as goal

pub returns-clause-kept : goal.returns-clause-kept
returns-clause-kept c = λ K are.
    let p = c.args.self.now.puzzle in
    kept-deciding false p (singles_sound p c.args.self.now.is_solo) c.requires.house_in K are true
    (λ _. rw c.n.ensures.value at c.keep_singles.ensures) (λ e. absurd (true≢false e))
