use Rattle.fields_core.proofs.Common.{has_bit, is_numbered, ltb, white, ℕ, ◌&&◌, ◌*◌, ◌+◌, ◌≡◌}
use Rattle.fields_core.proofs.planes.light_up.tables.cells_of_row.Given as goal

abbrev pub invariant-loop-x : goal.invariant-loop-x
invariant-loop-x g l = record {
  whites : (x : ℕ) → has_bit (g.W.Word.bits l.whites) x ≡ (ltb x l.x && white l.puzzle (l.y * l.puzzle.size.w + x));
  numbers : (x : ℕ) → has_bit (g.W.Word.bits l.numbers) x ≡ (ltb x l.x && is_numbered l.puzzle (l.y * l.puzzle.size.w + x));
}
