use Rattle.solo_core.proofs.Common.{arith}
use Rattle.solo_core.proofs.BitLemmas.{first-dropped}
use Rattle.solo_core.proofs.visits.bits.without_first.Goals as goal

pub returns : goal.returns
returns c = λ first is v. first-dropped c.args.bits first v (omega arith) is
