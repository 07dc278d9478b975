use Rattle.solo_core.proofs.Common.{arith}
use Rattle.solo_core.proofs.BitLemmas.{first-set}
use Rattle.solo_core.proofs.visits.bits.first_bit.Goals as goal

pub returns : goal.returns
returns c = first-set c.args.bits (omega arith) c.if-bits-eq0.false
