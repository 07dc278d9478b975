use Rattle.solo_core.proofs.Common.{Block, false, has_bit, lies_in_house, places_of, slice_index, ℕ, ◌<◌, ◌≡◌, ◌≤◌}
use Rattle.solo_core.proofs.visits.crossing.shared.Given as goal

abbrev pub invariant-loop-k : goal.invariant-loop-k
invariant-loop-k l = record {
  below : (j : ℕ) → j < l.k → has_bit l.bits j ≡ lies_in_house l.puzzle l.line (slice_index (places_of l.puzzle (Block l.block)) j);
  above : (j : ℕ) → l.k ≤ j → has_bit l.bits j ≡ false;
}
