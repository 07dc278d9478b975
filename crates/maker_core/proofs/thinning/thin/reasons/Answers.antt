use Rattle.maker_core.proofs.Common.{ap, ◌∙◌}
use Rattle.maker_core.proofs.ThinningTurns.{no_reason, reason_kept, reason_skipped}
use Rattle.maker_core.proofs.thinning.thin.reasons.Goals as goal
use Rattle.maker_core.proofs.thinning.thin.reasons.Goals.{in-Some+in_ok-push, in_default}

pub loop-place-preserved : goal.loop-place-preserved
loop-place-preserved c = elim c.match-whys-place.branch [
  | in-Some+in_ok-push w ↦ reason_kept c.args.whys.now c.loop-place-test.true w.in-Some.is c.loop-place.invariant
      (ap (λ v. v.items) w.kept-is ∙ w.in_ok-push.ensures.items)
  | in_default w ↦ reason_skipped c.args.whys.now c.loop-place-test.true (no_reason _ w.in_default.not-Some)
      c.loop-place.invariant (ap (λ v. v.items) w.kept-is)
]
