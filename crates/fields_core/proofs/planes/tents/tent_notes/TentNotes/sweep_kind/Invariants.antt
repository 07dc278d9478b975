use Rattle.fields_core.proofs.Common.{count_below, has_bit, kind_houses, kind_lines, ◌≡◌}
use Rattle.fields_core.proofs.IdleLemmas.{AreLinesPassed}
use Rattle.fields_core.proofs.planes.tents.tent_notes.TentNotes.sweep_kind.Given as goal

abbrev pub invariant-loop-left : goal.invariant-loop-left
invariant-loop-left g l = record {
  passed : AreLinesPassed (kind_houses l.puzzle l.kind) (kind_lines l.puzzle l.kind) (has_bit (g.W.Word.bits l.left)) l.fn.planes l.planes;
  trees : l.self.trees ≡ l.fn.self.trees;
  waits : l.self.waits ≡ l.fn.self.waits;
}

abbrev pub decreases-loop-left : goal.decreases-loop-left
decreases-loop-left g l = count_below (has_bit (g.W.Word.bits l.left)) g.W.Word.room
