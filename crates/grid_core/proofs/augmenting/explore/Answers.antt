use Rattle.grid_core.proofs.Common.{arith, ◌∙◌}
use Rattle.grid_core.proofs.PairingLemmas.{IsExplored-step}
use Rattle.grid_core.proofs.augmenting.explore.Goals as goal

pub loop-head-preserved : goal.loop-head-preserved
loop-head-preserved g c =
    let i = c.loop-head.invariant in
    let e = c.reach_owners.ensures in
    let longer = e.grown.grown in
    let more = c.loop-head-test.true in (
      e.room ∙ i.0,
      omega arith,
      e.reach,
      IsExplored-step _ _ (omega arith) i.3 e.grown
          (rw c.left.ensures.left at c.in_default.ensures) e.owners,
    )
