use Rattle.grid_core.specs.Board.{SameShape}
use Rattle.core_tests.proofs.pattern.put.Given as goal

abbrev pub invariant-loop-k : goal.invariant-loop-k
invariant-loop-k l = SameShape l.fn.board l.board
