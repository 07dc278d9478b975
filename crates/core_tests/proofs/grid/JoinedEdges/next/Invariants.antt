use Rattle.std.proofs.Common.{ℕ, ◌<◌, ◌≤◌, ◌==◌, IsTrue}
use Rattle.std.specs.Int.{bit_at}
use Rattle.core_tests.proofs.grid.JoinedEdges.next.Given as goal

abbrev pub invariant-loop-right : goal.invariant-loop-right
invariant-loop-right l = (q : ℕ) → l.from ≤ q → q < l.right → IsTrue (bit_at l.bits q == 1) → ⊥
