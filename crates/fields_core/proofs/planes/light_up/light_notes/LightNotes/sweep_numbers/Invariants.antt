use Rattle.fields_core.proofs.Common.{AreLightsReady, has_bit, numbers_of_row, ◌≡◌}
use Rattle.fields_core.proofs.IdleLemmas.{AreLinesPassed, places_on}
use Rattle.fields_core.proofs.planes.light_up.light_notes.LightNotes.sweep_numbers.Given as goal

abbrev pub invariant-loop-left : goal.invariant-loop-left
invariant-loop-left g l = record {
  passed : AreLinesPassed (numbers_of_row l.puzzle) l.puzzle.size.h (has_bit (g.W.Word.bits l.left)) l.fn.planes l.planes;
  ready : AreLightsReady g.W.Word.bits g.W.Word.room l.puzzle l.planes l.self;
  kept : l.self.tables ≡ l.fn.self.tables;
}

abbrev pub decreases-loop-left : goal.decreases-loop-left
decreases-loop-left g l = places_on (has_bit (g.W.Word.bits l.left)) g.W.Word.room
