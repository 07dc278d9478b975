use Rattle.fields_core.proofs.Common.{has_bit, run_houses, run_lines}
use Rattle.fields_core.proofs.IdleLemmas.{AreLinesPassed, places_on}
use Rattle.fields_core.proofs.planes.light_up.light_notes.LightNotes.sweep_runs.Given as goal

abbrev pub invariant-loop-left : goal.invariant-loop-left
invariant-loop-left g l = record {
  passed : AreLinesPassed (run_houses l.puzzle l.kind) (run_lines l.puzzle l.kind) (has_bit (g.W.Word.bits l.left)) l.fn.planes l.planes;
}

abbrev pub decreases-loop-left : goal.decreases-loop-left
decreases-loop-left g l = places_on (has_bit (g.W.Word.bits l.left)) g.W.Word.room
