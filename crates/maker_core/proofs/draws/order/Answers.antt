use Rattle.maker_core.proofs.Common.{arith, ◌≡◌}
use Rattle.maker_core.proofs.Shuffles.{order_from_permutation}
use Rattle.maker_core.proofs.draws.order.Goals as goal

pub returns-clause-ordered : goal.returns-clause-ordered
returns-clause-ordered g c =
    let all : c.loop-number.number ≡ c.args.n = omega arith in
    order_from_permutation (rw (c.loop-number.invariant, all) at c.shuffle.ensures.permutation)
