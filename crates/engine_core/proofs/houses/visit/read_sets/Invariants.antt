use Rattle.engine_core.proofs.Common.{IsBitsOf, has, slice_index, ℕ, ◌<◌}
use Rattle.engine_core.proofs.houses.visit.read_sets.Given as goal

abbrev pub invariant-loop-k : goal.invariant-loop-k
invariant-loop-k g l = (j : ℕ) → j < l.k
    → IsBitsOf (has l.board (slice_index ((g.R.Rules.system l.rules).scope l.house) j))
    (g.R.Rules.system l.rules).values (slice_index l.sets j)
