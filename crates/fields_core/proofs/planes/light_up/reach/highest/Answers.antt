use Rattle.fields_core.proofs.Common.{fewer_left, has_bit, inr, sym, ◌∙◌}
use Rattle.fields_core.proofs.LightReach.{last-done, last-more, last-next}
use Rattle.fields_core.proofs.planes.light_up.reach.highest.Goals as goal

pub loop-place-init : goal.loop-place-init
loop-place-init g c = record {
  last = last-next c.lowest-place.ensures (λ k on. on) (λ k lt on. inr on) (λ k. c.without_lowest-rest.ensures c.lowest-place.result k c.lowest-place.ensures);
}

pub loop-place-smaller : goal.loop-place-smaller
loop-place-smaller g c =
    let least = c.lowest-place-in-loop-place.ensures in
    fewer_left (has_bit (g.W.Word.bits c.loop-place.rest)) (has_bit (g.W.Word.bits c.without_lowest-rest-in-loop-place.result)) g.W.Word.room c.lowest-place-in-loop-place.result
    least.within least.has (λ k. c.without_lowest-rest-in-loop-place.ensures c.lowest-place-in-loop-place.result k least)

pub loop-place-preserved : goal.loop-place-preserved
loop-place-preserved g c =
    let least = c.lowest-place-in-loop-place.ensures in
    record { last = last-more c.loop-place.invariant.last least (λ k. c.without_lowest-rest-in-loop-place.ensures c.lowest-place-in-loop-place.result k least) }

pub returns-clause-last : goal.returns-clause-last
returns-clause-last g c = last-done c.loop-place.invariant.last (sym c.is_some.ensures ∙ c.loop-place-test.false)
