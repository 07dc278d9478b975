use Rattle.pattern_core.proofs.Common.{clue_of, has_runs, line_numbers, true, ℕ, ◌<◌, ◌≡◌}
use Rattle.pattern_core.proofs.lines.PatternLinesRules.accept.Given as goal

abbrev pub invariant-loop-line : goal.invariant-loop-line
invariant-loop-line l = (k : ℕ) → k < l.line
    → has_runs (clue_of l.self.pattern k) (line_numbers l.self.pattern.size l.grid k) ≡ true
