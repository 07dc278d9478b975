use Rattle.grid_core.proofs.Common.{◌∙◌}
use Rattle.grid_core.proofs.PairingLemmas.{IsScan-free, IsScan-known, IsScan-push}
use Rattle.grid_core.proofs.augmenting.reach_owners.Goals as goal
use Rattle.grid_core.proofs.augmenting.reach_owners.Goals.{in-Some-owner+then-not-has, in-Some-owner+else-not-has, in_default-owner}

pub loop-right-preserved : goal.loop-right-preserved
loop-right-preserved g c =
    let f = c.in-Some.ensures in
    let s = c.loop-right.invariant in
    elim c.match-owner.branch [
      | in-Some-owner+then-not-has w ↦
          rw (w.frontier-is ∙ w.push.ensures)
          (IsScan-push s f.3 w.in-Some-owner.ensures.owner c.requires.head_in c.left-left.ensures.left f.2)
      | in-Some-owner+else-not-has w ↦
          rw w.frontier-is
          (IsScan-known s f.3 w.in-Some-owner.ensures.owner (w.has.ensures.0 w.if-not-has.false))
      | in_default-owner w ↦ rw w.frontier-is (IsScan-free s f.3 w.in_default-owner.ensures.owner)
    ]
