use Rattle.std.proofs.lemmas.Grind.{common_steps}
use Rattle.solo_core.proofs.Common.{arith}
use Rattle.solo_core.proofs.NarrowLemmas.{narrowed-more}
use Rattle.solo_core.proofs.PeelLemmas.{counts-same, peeled-step}
use Rattle.solo_core.proofs.visits.peel.narrow_all.Goals as goal

pub loop-i-preserved : goal.loop-i-preserved
loop-i-preserved c =
    narrowed-more c.requires.rest.within c.requires.rest.different c.loop-i.invariant (omega arith) c.from-cell.ensures c.narrow-set.result
    c.narrow-set.ensures.inside c.narrow-set.ensures.dropped
    c.with-narrowed.ensures.some c.with-narrowed.ensures.single c.with-narrowed.ensures.shared

pub returns-clause-peeled : goal.returns-clause-peeled
returns-clause-peeled c =
    let i = c.loop-i.invariant in
    peeled-step c.requires.square c.requires.counts i.as_many
    (λ k v lk on. i.inside k v on) (λ k v lk lv on off. i.dropped k v lv on off)

pub returns-clause-counts : goal.returns-clause-counts
returns-clause-counts c = grind (arith, common_steps, counts-same, c.loop-i.invariant)
