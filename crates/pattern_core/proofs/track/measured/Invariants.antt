use Rattle.pattern_core.proofs.Common.{drop, get_or, used, ℕ, ◌+◌, ◌<◌, ◌≡◌, ◌≤◌}
use Rattle.pattern_core.proofs.track.measured.Given as goal

abbrev pub invariant-loop-k : goal.invariant-loop-k
invariant-loop-k l = (l.cells + used (drop l.k l.numbers) ≡ used l.numbers)
    × ((k : ℕ) → k < l.k → get_or l.numbers k 0 ≤ l.longest) × (l.longest < 256)
