use Rattle.solo_core.proofs.Common.{has_in}
use Rattle.solo_core.proofs.PartLemmas.{up-none}
use Rattle.solo_core.proofs.visits.turning.spread_before.Goals as goal

pub loop-before-init : goal.loop-before-init
loop-before-init c = up-none (has_in c.args.leads.now) c.requires.root c.with_bit-before.ensures
