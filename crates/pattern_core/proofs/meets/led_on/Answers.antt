use Rattle.pattern_core.proofs.TableSteps.{set_for_black}
use Rattle.pattern_core.proofs.meets.led_on.Goals as goal

pub returns-else-number-eq0 : goal.returns-else-number-eq0
returns-else-number-eq0 g c = rw (set_for_black c.args.number c.if-number-eq0.false) c.ways_of-ways.ensures.black
