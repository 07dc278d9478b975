use Rattle.gameid_core.specs.Common.{take, ◌≡◌}
use Rattle.gameid_core.proofs.lines.ones.numbers_of.Given as goal

abbrev pub invariant-loop-place : goal.invariant-loop-place
invariant-loop-place l = l.numbers.items ≡ take l.place l.grid
