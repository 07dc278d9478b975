use Rattle.grid_core.proofs.Common.{has_bit, length, ltb, map, slice_index, ℕ, ◌&&◌, ◌*◌, ◌<◌, ◌≡◌, ◌≤◌}
use Rattle.grid_core.proofs.planes.turn.write_lines.Given as goal

abbrev pub invariant-loop-k : goal.invariant-loop-k
invariant-loop-k g l = record {
  written : (k place : ℕ) → k < l.k → has_bit (slice_index (map g.W.Word.bits l.words.items) k) place
      ≡ (ltb k (2 * l.lines) && has_bit (g.W.Word.bits l.word) place);
  others : (k : ℕ) → l.k ≤ k → slice_index (map g.W.Word.bits l.words.items) k
      ≡ slice_index (map g.W.Word.bits l.fn.words.items) k;
  long : length l.words.items ≡ length l.fn.words.items;
}
