use Rattle.fields_core.proofs.Common.{arith, common_steps, length-set}
use Rattle.fields_core.proofs.TentLines.{listed-keep, listed-skip}
use Rattle.fields_core.proofs.tents.pairs.list_tents.Goals as goal
use Rattle.fields_core.proofs.tents.pairs.list_tents.Goals.{then-get-eq1, else-get-eq1}

pub loop-place-preserved : goal.loop-place-preserved
loop-place-preserved c =
    let i = c.loop-place.invariant in
    elim c.if-get-eq1.branch [
      | then-get-eq1 w ↦ rw (w.count-is, w.tents-is) (grind (arith, common_steps, listed-keep, length-set))
      | else-get-eq1 w ↦ rw (w.count-is, w.tents-is) (record {
        listed = listed-skip c.args.grid.now c.loop-place.tents c.loop-place.count c.loop-place.place i.listed c.get.ensures w.if-get-eq1.false;
        few = omega (arith, i.few);
        as_long = i.as_long;
      })
    ]
