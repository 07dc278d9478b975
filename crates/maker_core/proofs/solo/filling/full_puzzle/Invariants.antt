use Rattle.maker_core.proofs.Common.{◌≡◌}
use Rattle.maker_core.proofs.SoloSolution.{given_first}
use Rattle.maker_core.proofs.solo.filling.full_puzzle.Given as goal

abbrev pub invariant-loop-place : goal.invariant-loop-place
invariant-loop-place l = l.puzzle ≡ given_first l.c l.r l.x l.grid l.place
