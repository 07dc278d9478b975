use Rattle.engine_core.proofs.HouseLemmas.{AreCut}
use Rattle.engine_core.proofs.houses.list.HouseList.cut.Given as goal

abbrev pub invariant-loop-list : goal.invariant-loop-list
invariant-loop-list l = AreCut l.long l.places.items l.list l.ends.items
