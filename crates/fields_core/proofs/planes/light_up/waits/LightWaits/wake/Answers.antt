use Rattle.fields_core.proofs.LightSweeps.{lines-woken}
use Rattle.fields_core.proofs.planes.light_up.waits.LightWaits.wake.Goals as goal

pub returns : goal.returns
returns g c = λ p from of was is further rested.
    lines-woken g.W.Word.bits p c.lost-zeros.result.0 c.lost-zeros.result.1 _ _
    c.lost-zeros.ensures.zeros c.lost-zeros.ensures.ones of was is further c.woken.ensures rested
