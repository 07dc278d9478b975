use Rattle.commands.proofs.Common.{[], refl}
use Rattle.commands.proofs.RunLemmas.{piece_begun, put_more}
use Rattle.commands.proofs.ends.output.put_all.Goals as goal

pub loop-rest-preserved : goal.loop-rest-preserved
loop-rest-preserved g c =
    (put_more g.met.O.Sink.takes_both c.in-Some.count _ refl c.loop-rest.invariant.0 c.in-Some.ensures.bytes, c.in-Some.ensures.failed)

pub returns-in-None-clause-err : goal.returns-in-None-clause-err
returns-in-None-clause-err g c = piece_begun g.met.O.Sink.takes_both _ _ _
    c.loop-rest.invariant.0 (record { done = []; took = c.in-None.ensures.bytes; begun = (_, refl) })
