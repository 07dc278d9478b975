use Rattle.grid_core.specs.Board.{SameShape}
use Rattle.core_tests.proofs.pattern.row_agrees.Given as goal

abbrev pub invariant-loop-number : goal.invariant-loop-number
invariant-loop-number l = SameShape l.fn.board l.board
