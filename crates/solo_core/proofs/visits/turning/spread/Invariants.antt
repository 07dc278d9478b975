use Rattle.solo_core.proofs.Common.{has_in, length, ◌≤◌}
use Rattle.solo_core.proofs.PartLemmas.{IsSpreadingBack}
use Rattle.solo_core.proofs.visits.turning.spread.Given as goal

abbrev pub invariant-loop-value : goal.invariant-loop-value
invariant-loop-value l = record {
  grows : l.before ≤ l.more;
  back : IsSpreadingBack (length l.leads) (has_in l.leads) l.after l.before l.more l.left;
}

abbrev pub decreases-loop-value : goal.decreases-loop-value
decreases-loop-value l = l.left
