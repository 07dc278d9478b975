use Rattle.solo_core.proofs.Common.{has_in, length, ◌-◌, ◌^◌}
use Rattle.solo_core.proofs.PartLemmas.{IsSpreadingUp}
use Rattle.solo_core.proofs.visits.turning.spread_before.Given as goal

abbrev pub invariant-loop-before : goal.invariant-loop-before
invariant-loop-before l = IsSpreadingUp (length l.leads) (has_in l.leads) l.root l.after l.before

abbrev pub decreases-loop-before : goal.decreases-loop-before
decreases-loop-before l = 2 ^ 32 - l.before
