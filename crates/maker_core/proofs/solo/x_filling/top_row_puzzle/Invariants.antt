use Rattle.maker_core.proofs.Common.{true, ◌≡◌}
use Rattle.maker_core.proofs.SoloSolution.{given_first}
use Rattle.maker_core.proofs.solo.x_filling.top_row_puzzle.Given as goal

abbrev pub invariant-loop-column : goal.invariant-loop-column
invariant-loop-column l = l.puzzle ≡ given_first l.c l.r true l.numbers l.column
