use Rattle.engine_core.proofs.Common.{IsBitsOf, has, slice_index, ℕ, ◌<◌}
use Rattle.engine_core.proofs.houses.visit.gather.Given as goal

abbrev pub invariant-loop-k : goal.invariant-loop-k
invariant-loop-k l = (j : ℕ) → j < l.k → IsBitsOf (has l.board (slice_index l.places j)) l.board.values (slice_index l.sets j)
