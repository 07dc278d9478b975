use Rattle.fields_core.proofs.Common.{Bool, TestsBelow, false, ℕ, ◌<◌, ◌≡◌, ◌≤◌}
use Rattle.fields_core.proofs.count.house.next_passing.Given as goal

abbrev pub invariant-loop-number : goal.invariant-loop-number
invariant-loop-number g l = (test : ℕ → Bool) → TestsBelow (goal.F-post g l.passes) test l.end → (j : ℕ) → l.from ≤ j → j < l.number → test j ≡ false
