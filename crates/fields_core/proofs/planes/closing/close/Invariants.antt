use Rattle.fields_core.proofs.Common.{AreKept, planes_have, rules_of, total}
use Rattle.fields_core.proofs.PlaneSweeps.{AreSweepsOf}
use Rattle.fields_core.proofs.planes.closing.close.Given as goal

abbrev pub invariant-closing : goal.invariant-closing
invariant-closing g l = record {
  sweeps : AreSweepsOf (rules_of (g.P.CountGame.counts l.puzzle)) l.fn.planes l.sweeps l.planes;
  ready : g.N.SweepNotes.ready l.puzzle l.planes l.notes;
  kept : AreKept g.N.SweepNotes.fits g.N.SweepNotes.written l.fn.notes l.notes;
}

abbrev pub decreases-closing : goal.decreases-closing
decreases-closing g l = total (g.P.CountGame.counts l.puzzle).cells 2 (planes_have l.planes)
