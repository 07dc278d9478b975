use Rattle.std.proofs.Common.{◌≡◌}
use Rattle.solo_core.proofs.visits.quick.give.Given as goal

abbrev pub invariant-loop-j : goal.invariant-loop-j
invariant-loop-j l = l.mates ≡ l.fn.mates
