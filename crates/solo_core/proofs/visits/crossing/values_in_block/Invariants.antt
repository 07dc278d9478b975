use Rattle.solo_core.proofs.Common.{any_below, has_bit, has_in, nat_lt, not, ℕ, ◌&&◌, ◌≡◌}
use Rattle.solo_core.proofs.visits.crossing.values_in_block.Given as goal

abbrev pub invariant-loop-k : goal.invariant-loop-k
invariant-loop-k l = (v : ℕ) → has_bit l.values v ≡ any_below (λ j. (nat_lt j l.block && not (has_bit l.shared j)) && has_in l.sets j v) l.k
