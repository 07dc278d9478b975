use Rattle.solo_core.proofs.Common.{arith}
use Rattle.solo_core.proofs.OpenLemmas.{closed-set}
use Rattle.solo_core.proofs.visits.open.OpenHouse.close.Goals as goal

pub returns : goal.returns
returns c = λ has n value o lk lv single alone.
    closed-set c.args.set c.with_bit.result o lk lv alone (omega arith) single c.if-self-set-eq0.false c.with_bit.ensures c.without.ensures c.without-2.ensures
