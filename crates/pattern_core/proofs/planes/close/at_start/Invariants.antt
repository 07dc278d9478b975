use Rattle.pattern_core.proofs.Common.{◌+◌}
use Rattle.pattern_core.proofs.WaitingLines.{AreWeighed}
use Rattle.pattern_core.proofs.planes.close.at_start.Given as goal

abbrev pub invariant-loop-x : goal.invariant-loop-x
invariant-loop-x g l = AreWeighed g.W.Word.bits l.rules.pattern l.waits l.x

abbrev pub invariant-loop-y : goal.invariant-loop-y
invariant-loop-y g l = AreWeighed g.W.Word.bits l.rules.pattern l.waits (l.rules.pattern.size.w + l.y)
