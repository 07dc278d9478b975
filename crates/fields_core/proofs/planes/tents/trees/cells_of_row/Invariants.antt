use Rattle.fields_core.proofs.Common.{has_bit, ltb, tree, ℕ, ◌&&◌, ◌*◌, ◌+◌, ◌≡◌}
use Rattle.fields_core.proofs.planes.tents.trees.cells_of_row.Given as goal

abbrev pub invariant-loop-x : goal.invariant-loop-x
invariant-loop-x g l = (x : ℕ) → has_bit (g.W.Word.bits l.trees) x ≡ (ltb x l.x && tree l.puzzle (l.y * l.puzzle.size.w + x))
