use Rattle.solo_core.proofs.Common.{◌∙◌}
use Rattle.solo_core.proofs.SinglesLemmas.{some_below}
use Rattle.solo_core.proofs.visits.singles.has_some.Goals as goal

pub returns : goal.returns
returns c = c.is_some.ensures ∙ some_below _ _ _ (rw c.from.ensures at c.next_bit.ensures)
