use Rattle.solo_core.proofs.Common.{has_in, length, ◌-◌}
use Rattle.solo_core.proofs.PartLemmas.{ArePartsBut}
use Rattle.solo_core.proofs.visits.parts.write_parts.Given as goal

abbrev pub invariant-loop-root : goal.invariant-loop-root
invariant-loop-root l = ArePartsBut (length l.leads) (has_in l.leads) l.all l.fn.parts l.parts l.left l.from

abbrev pub decreases-loop-root : goal.decreases-loop-root
decreases-loop-root l = length l.leads - l.from
