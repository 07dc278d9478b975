use Rattle.std.proofs.Common.{sym, ◌∙◌, arith}
use Rattle.solo_core.proofs.SinglesLemmas.{decided_whole}
use Rattle.solo_core.proofs.visits.singles.keep_singles.Goals as goal

pub returns : goal.returns
returns c = decided_whole _ _ _ (sym c.is_broken.ensures ∙ c.if-is_broken.false) c.loop-place.invariant.as_many
    (λ k v lk lv. c.loop-place.invariant.bits k v (omega arith) lv)
