use Rattle.engine_core.proofs.Common.{add-one, longest, refl, rules}
use Rattle.engine_core.proofs.rules.Rules.longest.Goals as goal

pub loop-house-init : goal.loop-house-init
unfolding longest
loop-house-init g c = refl

pub loop-house-preserved : goal.loop-house-preserved
unfolding longest
loop-house-preserved g c = rw add-one (search rules)
