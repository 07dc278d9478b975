use Rattle.solo_core.proofs.Common.{has_bit, length, slice_index, stays_in, ℕ, ◌<◌, ◌≡◌}
use Rattle.solo_core.proofs.visits.singles.keep_singles.Given as goal

abbrev pub invariant-loop-place : goal.invariant-loop-place
invariant-loop-place l = record {
  as_many : length l.kept ≡ length l.sets;
  bits : (k v : ℕ) → k < l.place → v < l.values → has_bit (slice_index l.kept k) v ≡ stays_in l.values l.sets k v;
}
