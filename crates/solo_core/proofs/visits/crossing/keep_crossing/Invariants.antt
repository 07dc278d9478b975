use Rattle.solo_core.proofs.Common.{has_bit, has_in, length, nat_le, nat_lt, not, slice_index, ℕ, ◌&&◌, ◌<◌, ◌≡◌}
use Rattle.solo_core.proofs.visits.crossing.keep_crossing.Given as goal

abbrev pub invariant-loop-k : goal.invariant-loop-k
invariant-loop-k l = record {
  as_many : length l.kept ≡ length l.sets;
  bits : (k v : ℕ) → k < l.k → has_bit (slice_index l.kept k) v
      ≡ ((has_in l.sets k v && not (nat_le l.block k && not (has_bit l.in_block v))) && not
      ((nat_lt k l.block && not (has_bit l.shared k)) && not (has_bit l.in_line v)));
}
