use Rattle.maker_core.proofs.Common.{reasons_from, take, ◌≡◌}
use Rattle.maker_core.proofs.thinning.thin.reasons.Given as goal

abbrev pub invariant-loop-place : goal.invariant-loop-place
invariant-loop-place l = l.kept.items ≡ reasons_from 0 (take l.place l.whys)
