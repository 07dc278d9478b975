use Rattle.solo_core.specs.Common.{numbers_of}
use Rattle.solo_core.proofs.RepeatLemmas.{HasSeen}
use Rattle.solo_core.proofs.check.holds_each_once.Given as goal

abbrev pub invariant-loop-k : goal.invariant-loop-k
invariant-loop-k l = HasSeen (numbers_of l.puzzle l.grid l.house) l.k l.seen
