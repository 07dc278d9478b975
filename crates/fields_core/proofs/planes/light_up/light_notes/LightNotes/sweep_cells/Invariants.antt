use Rattle.fields_core.proofs.Common.{AreSafe, AreVisited, planes_have, has_bit, houses_below, joined_in_column, lits_of_row, true, ℕ, ◌*◌, ◌+◌, ◌≡◌}
use Rattle.fields_core.proofs.planes.light_up.light_notes.LightNotes.sweep_cells.Given as goal

abbrev pub invariant-loop-y : goal.invariant-loop-y
invariant-loop-y g l = record {
  visited : AreVisited (houses_below (lits_of_row l.puzzle) l.y) l.fn.planes l.planes true;
  above : (x : ℕ) → has_bit (g.W.Word.bits l.above) x ≡ true
      → (j : ℕ) × (j + 1 ≡ l.y) × AreSafe (joined_in_column l.puzzle (j * l.puzzle.size.w + x)) (planes_have l.planes);
}
