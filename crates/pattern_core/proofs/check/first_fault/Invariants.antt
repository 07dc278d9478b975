use Rattle.pattern_core.proofs.Common.{HasClue, ℕ, ◌<◌}
use Rattle.pattern_core.proofs.check.first_fault.Given as goal

abbrev pub invariant-loop-line : goal.invariant-loop-line
invariant-loop-line l = (k : ℕ) → k < l.line → HasClue l.puzzle l.grid k
