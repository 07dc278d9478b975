use Rattle.solo_core.proofs.Common.{false, has_bit, has_in, length, meets, slice_index, true, ℕ, ◌<◌, ◌≡◌}
use Rattle.solo_core.proofs.visits.peel.are_whole.Given as goal

abbrev pub invariant-loop-i : goal.invariant-loop-i
invariant-loop-i l = (t v : ℕ) → t < l.i → t < length l.rest → v < l.values → meets l.sets l.lone (slice_index l.rest t) ≡ false
    → has_bit l.lone v ≡ false → has_in l.sets (slice_index l.rest t) v ≡ true
