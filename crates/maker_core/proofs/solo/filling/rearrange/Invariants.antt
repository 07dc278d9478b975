use Rattle.maker_core.proofs.Common.{length, rearranged, slice_index, ℕ, ◌*◌, ◌<◌, ◌≡◌}
use Rattle.maker_core.proofs.solo.filling.rearrange.Given as goal

abbrev pub invariant-loop-place : goal.invariant-loop-place
invariant-loop-place l = record {
  long : length l.grid ≡ (l.c * l.r) * (l.c * l.r);
  same : (k : ℕ) → k < l.place → slice_index l.grid k ≡ slice_index (rearranged l.c l.r l.numbers l.lines.rows.now l.lines.columns.now) k;
}
