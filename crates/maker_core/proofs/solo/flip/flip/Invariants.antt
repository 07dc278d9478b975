use Rattle.maker_core.proofs.Common.{flipped, length, slice_index, ℕ, ◌<◌, ◌≡◌}
use Rattle.maker_core.proofs.solo.flip.flip.Given as goal

abbrev pub invariant-loop-place : goal.invariant-loop-place
invariant-loop-place l = record {
  long : length l.turned ≡ length l.grid;
  same : (k : ℕ) → k < l.place → slice_index l.turned k ≡ slice_index (flipped l.n l.across l.down l.grid) k;
}
