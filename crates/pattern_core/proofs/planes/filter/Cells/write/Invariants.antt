use Rattle.pattern_core.proofs.Common.{length, set_at, slice_index, ℕ, ◌<◌, ◌≡◌}
use Rattle.pattern_core.proofs.planes.filter.Cells.write.Given as goal

abbrev pub invariant-loop-k : goal.invariant-loop-k
invariant-loop-k g l = (length l.sets ≡ length l.fn.sets)
    × ((k : ℕ) → k < l.k → slice_index l.sets k ≡ set_at (g.W.Word.bits l.self.white) (g.W.Word.bits l.self.black) k)
