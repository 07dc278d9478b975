use Rattle.solo_core.proofs.Common.{IsBegun, has_bit, length, slice_index, true, ℕ, ◌<◌, ◌≡◌}
use Rattle.solo_core.proofs.visits.quick.pair_quickly.Given as goal

abbrev pub invariant-loop-i : goal.invariant-loop-i
invariant-loop-i l = record {
  as_many : length l.mates.items ≡ l.i;
  below : (v : ℕ) → has_bit l.free v ≡ true → v < l.graph.values;
  begun : IsBegun l.graph.values l.graph.sets.now l.graph.rest.now l.i (slice_index l.mates.items) l.free;
}
