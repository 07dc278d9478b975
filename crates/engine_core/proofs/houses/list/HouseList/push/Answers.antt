use Rattle.engine_core.proofs.HouseLemmas.{pushed-listed}
use Rattle.engine_core.proofs.houses.list.HouseList.push.Goals as goal

pub invariant_of-self-2 : goal.invariant_of-self-2
invariant_of-self-2 c = rw c.in_ok-push.ensures.items (pushed-listed _ c.self.invariant c.self.view_is c.requires.fits)
