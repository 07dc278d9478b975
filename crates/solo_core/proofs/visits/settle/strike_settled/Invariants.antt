use Rattle.solo_core.proofs.SettledLemmas.{AreStruck}
use Rattle.solo_core.proofs.visits.settle.strike_settled.Given as goal

abbrev pub invariant-loop-i : goal.invariant-loop-i
invariant-loop-i l = record { struck : AreStruck l.values l.settled l.fn.sets l.sets l.rest l.i l.counts.some l.counts.single l.counts.shared l.is_struck }
