use Rattle.maker_core.proofs.Common.{range_with_len, ◌≡◌}
use Rattle.maker_core.proofs.draws.order.Given as goal

abbrev pub invariant-loop-number : goal.invariant-loop-number
invariant-loop-number g l = l.numbers.items ≡ range_with_len 0 l.number
