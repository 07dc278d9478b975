use Rattle.commands.proofs.Common.{PutUpTo, false, length, ◌≡◌}
use Rattle.commands.proofs.ends.output.put_all.Given as goal

abbrev pub invariant-loop-rest : goal.invariant-loop-rest
invariant-loop-rest g l = PutUpTo g.O.Sink.takes l.fn.output l.fn.bytes l.rest l.output
    × (g.O.Sink.has_failed l.output ≡ false)

abbrev pub decreases-loop-rest : goal.decreases-loop-rest
decreases-loop-rest g l = length l.rest
