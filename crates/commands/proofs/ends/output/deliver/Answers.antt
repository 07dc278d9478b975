use Rattle.commands.proofs.Common.{inl, inr, refl}
use Rattle.commands.proofs.RunLemmas.{delivers_all}
use Rattle.commands.proofs.ends.output.deliver.Goals as goal

pub returns-then-finish-clause-delivers : goal.returns-then-finish-clause-delivers
returns-then-finish-clause-delivers g c =
    delivers_all g.met.O.Sink.takes_both _ c.as_bytes.ensures.value (inl refl)
    c.in_ok-put_all.ensures.ok c.if-finish.ensures.bytes

pub returns-else-finish-clause-delivers : goal.returns-else-finish-clause-delivers
returns-else-finish-clause-delivers g c =
    delivers_all g.met.O.Sink.takes_both _ c.as_bytes.ensures.value (inr refl)
    c.in_ok-put_all.ensures.ok c.if-finish.ensures.bytes
