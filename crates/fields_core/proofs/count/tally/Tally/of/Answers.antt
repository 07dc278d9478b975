use Rattle.fields_core.proofs.Common.{arith}
use Rattle.fields_core.proofs.HouseLemmas.{tally-next, tally-within}
use Rattle.fields_core.proofs.count.tally.Tally.of.Goals as goal

pub has-zero-requires-clause-place_in : goal.has-zero-requires-clause-place_in
has-zero-requires-clause-place_in c =
    tally-within _ _ c.loop-k.k c.loop-k.invariant (omega (arith, c.loop-k-test.true, c.len-k-end.ensures)) c.place-place.ensures

pub has-one-requires-clause-place_in : goal.has-one-requires-clause-place_in
has-one-requires-clause-place_in c =
    tally-within _ _ c.loop-k.k c.loop-k.invariant (omega (arith, c.loop-k-test.true, c.len-k-end.ensures)) c.place-place.ensures

pub loop-k-preserved : goal.loop-k-preserved
loop-k-preserved c =
    rw (c.from-must.ensures, c.from-may.ensures, c.from-empty.ensures) (tally-next _ _ c.loop-k.k c.loop-k.invariant
    (omega (arith, c.loop-k-test.true, c.len-k-end.ensures)) c.place-place.ensures c.has-zero.ensures c.has-one.ensures)
