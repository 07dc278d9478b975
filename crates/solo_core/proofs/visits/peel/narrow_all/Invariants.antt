use Rattle.solo_core.proofs.Common.{IsDropped}
use Rattle.solo_core.proofs.NarrowLemmas.{IsNarrowed}
use Rattle.solo_core.proofs.visits.peel.narrow_all.Given as goal

abbrev pub invariant-loop-i : goal.invariant-loop-i
invariant-loop-i l =
    IsNarrowed (IsDropped l.values l.counts.single l.counts.shared) l.values l.fn.sets l.sets l.rest l.i l.narrowed.some l.narrowed.single l.narrowed.shared
