use Rattle.engine_core.proofs.Common.{false, has, ℕ, ◌<◌, ◌≡◌, ◌≤◌}
use Rattle.engine_core.proofs.trail.cells.least_value.Given as goal

abbrev pub invariant-loop-value : goal.invariant-loop-value
invariant-loop-value l = (j : ℕ) → l.from ≤ j → j < l.value → has l.board l.cell j ≡ false
