use Rattle.pattern_core.proofs.Common.{length, line_places, slice_index, ℕ, ◌*◌, ◌<◌, ◌≡◌}
use Rattle.pattern_core.proofs.line_cells.cells_of_line.Given as goal

abbrev pub invariant-loop-k : goal.invariant-loop-k
invariant-loop-k l = (length l.places.items ≡ l.k)
    × ((k : ℕ) → k < l.k → slice_index l.places.items k ≡ slice_index (line_places l.size l.line) k)
    × ((k : ℕ) → k < l.k → slice_index l.places.items k < l.size.w * l.size.h)
