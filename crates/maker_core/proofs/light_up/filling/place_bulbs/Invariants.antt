use Rattle.maker_core.proofs.Common.{bulbs_after, ◌≡◌}
use Rattle.maker_core.proofs.light_up.filling.place_bulbs.Given as goal

abbrev pub invariant-loop-k : goal.invariant-loop-k
invariant-loop-k l = l.grid ≡ bulbs_after l.fn.puzzle l.fn.order l.k
