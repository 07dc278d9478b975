use Rattle.maker_core.proofs.Common.{arith, refl, ◌*◌, ◌<◌}
use Rattle.maker_core.proofs.TentsSolved.{filling_none, filling_step, more_after, none_after, wide}
use Rattle.maker_core.proofs.tents.filling.take_cells.Goals as goal

pub loop-k-init : goal.loop-k-init
loop-k-init g c = record { drawn = none_after _ _ c.requires.none; filling = filling_none c.requires.none }

pub loop-k-preserved : goal.loop-k-preserved
loop-k-preserved g c =
    let within : c.loop-k.k < c.args.size.w * c.args.size.h = let l = c.requires.order.len in let t = c.loop-k-test.true in omega arith in
    record {
      drawn = more_after _ _ _ _ c.loop-k.invariant.drawn c.take_cell.ensures.drawn refl;
      filling = filling_step (wide c.args.size within) c.requires.order within refl c.loop-k.invariant.filling c.take_cell.ensures.taken;
    }
