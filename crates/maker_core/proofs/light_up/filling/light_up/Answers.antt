use Rattle.maker_core.proofs.Common.{length, sym}
use Rattle.maker_core.proofs.LightMakings.{bulbs_after-grid, lit_solved, order_within}
use Rattle.maker_core.proofs.light_up.filling.light_up.Goals as goal

pub place_bulbs-requires-clause-within : goal.place_bulbs-requires-clause-within
place_bulbs-requires-clause-within g c =
    order_within c.args.puzzle.now (rw (c.deref.ensures.value, sym c.in_ok-order.ensures) c.shuffle.ensures.permutation) c.size.ensures.lawful.count

pub returns-clause-grid : goal.returns-clause-grid
returns-clause-grid g c =
    rw c.place_bulbs.ensures (bulbs_after-grid c.args.puzzle.now c.deref.result.now (length c.deref.result.now))

pub returns-clause-solved : goal.returns-clause-solved
returns-clause-solved g c =
    lit_solved c.args.puzzle.now c.deref.result.now _ c.size.ensures.lawful.count
    (rw (c.deref.ensures.value, sym c.in_ok-order.ensures) c.shuffle.ensures.permutation) c.place_bulbs.ensures
