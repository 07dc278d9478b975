use Rattle.std.proofs.Common.{◌≡◌, ℕ, ◌<◌, length, slice_index}
use Rattle.solo_core.proofs.visits.mates.pair_rest.Given as goal

abbrev pub invariant-loop-i : goal.invariant-loop-i
invariant-loop-i l = record {
  as_many : length l.paired.items ≡ l.i;
  same : (j : ℕ) → j < l.i → slice_index l.paired.items j ≡ slice_index l.pairing.mates j;
}
