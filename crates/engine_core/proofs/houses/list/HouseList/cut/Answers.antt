use Rattle.engine_core.proofs.HouseLemmas.{cut-more}
use Rattle.engine_core.proofs.houses.list.HouseList.cut.Goals as goal

pub loop-list-preserved : goal.loop-list-preserved
loop-list-preserved c = rw c.in_ok-push.ensures.items (cut-more c.loop-list.list c.loop-list.invariant)
