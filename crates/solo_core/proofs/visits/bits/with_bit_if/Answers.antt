use Rattle.std.proofs.Common.{arith}
use Rattle.solo_core.proofs.BitLemmas.{bit_if}
use Rattle.solo_core.proofs.visits.bits.with_bit_if.Goals as goal

pub returns : goal.returns
returns c = λ v. rw c.from.ensures (bit_if c.args.bits c.args.value v c.args.on (omega arith))
