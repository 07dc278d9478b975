use Rattle.solo_core.proofs.Common.{arith}
use Rattle.solo_core.proofs.OpenLemmas.{bit-in, one-bit, reopened-set}
use Rattle.solo_core.proofs.visits.open.OpenHouse.reopen.Goals as goal

pub returns-then-self-with_bit-ne0-clause-here : goal.returns-then-self-with_bit-ne0-clause-here
returns-then-self-with_bit-ne0-clause-here c = bit-in c.args.self.cells c.args.cell (omega arith) c.if-self-with_bit-ne0.true (one-bit c.with_bit.result c.args.cell c.with_bit.ensures)

pub returns-clause-stays : goal.returns-clause-stays
returns-clause-stays c = λ has n value o lk lv single alone.
    reopened-set c.args.set c.with_bit.result o lk lv alone single c.if-self-with_bit-ne0.false c.with_bit.ensures c.with_bit-2.ensures
