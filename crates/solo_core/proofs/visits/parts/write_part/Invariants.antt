use Rattle.solo_core.proofs.Common.{false, has_bit, length, slice_index, true, ℕ, ◌-◌, ◌<◌, ◌≡◌, ◌≤◌}
use Rattle.solo_core.proofs.visits.parts.write_part.Given as goal

abbrev pub invariant-loop-value : goal.invariant-loop-value
invariant-loop-value l = record {
  as_many : length l.parts ≡ length l.fn.parts;
  within : l.from ≤ length l.parts;
  here : (v : ℕ) → v < l.from → has_bit l.part v ≡ true → slice_index l.parts v ≡ l.part;
  others : (v : ℕ) → has_bit l.part v ≡ false → slice_index l.parts v ≡ slice_index l.fn.parts v;
}

abbrev pub decreases-loop-value : goal.decreases-loop-value
decreases-loop-value l = length l.parts - l.from
