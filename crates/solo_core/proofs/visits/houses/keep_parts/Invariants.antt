use Rattle.solo_core.proofs.Common.{KeepsOthers, has_in, length, slice_index, ℕ, ◌&&◌, ◌<◌, ◌≡◌, ◌≤◌}
use Rattle.solo_core.proofs.visits.houses.keep_parts.Given as goal

abbrev pub invariant-loop-i : goal.invariant-loop-i
invariant-loop-i l = record {
  as_many : length l.kept ≡ length l.fn.kept;
  bits : (i v : ℕ) → i < l.i → has_in l.kept (slice_index l.rest i) v
      ≡ (has_in l.fn.kept (slice_index l.rest i) v && has_in l.parts (slice_index l.mates i) v);
  ahead : (i : ℕ) → l.i ≤ i → i < length l.rest → slice_index l.kept (slice_index l.rest i) ≡ slice_index l.fn.kept (slice_index l.rest i);
  others : KeepsOthers l.rest l.fn.kept l.kept;
}
