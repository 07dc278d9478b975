use Rattle.solo_core.proofs.Common.{has_in, length, ◌-◌, ◌^◌}
use Rattle.solo_core.proofs.PartLemmas.{IsSpreading}
use Rattle.solo_core.proofs.visits.turning.spread_after.Given as goal

abbrev pub invariant-loop-value : goal.invariant-loop-value
invariant-loop-value l = IsSpreading (length l.leads) (has_in l.leads) l.root l.left l.after l.done

abbrev pub decreases-loop-value : goal.decreases-loop-value
decreases-loop-value l = 2 ^ 32 - l.done
