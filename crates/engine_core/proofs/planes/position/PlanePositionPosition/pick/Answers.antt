use Rattle.engine_core.proofs.Common.{arith, div-add-mod'}
use Rattle.engine_core.proofs.PlaneSteps.{none-above}
use Rattle.engine_core.proofs.planes.position.PlanePositionPosition.pick.Goals as goal

pub pick-requires-clause-none : goal.pick-requires-clause-none
pick-requires-clause-none g c =
    let r = rw c.in-Short.is at (rw (← c.self.view_is) at c.requires) in
    let two = g.met.R.BinaryRules.two c.args._rules.now in
    none-above c.args.from _ _ (rw c.split-row.ensures.row (omega (arith, div-add-mod' c.args.from c.in-Short.noted.planes.size.w))) (rw two at r.none)

pub pick-requires-in-Long-clause-none : goal.pick-requires-in-Long-clause-none
pick-requires-in-Long-clause-none g c =
    let r = rw c.in-Long.is at (rw (← c.self.view_is) at c.requires) in
    let two = g.met.R.BinaryRules.two c.args._rules.now in
    none-above c.args.from _ _ (rw c.split-row-in-Long.ensures.row (omega (arith, div-add-mod' c.args.from c.in-Long.noted.planes.size.w))) (rw two at r.none)
