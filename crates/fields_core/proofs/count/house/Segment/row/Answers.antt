use Rattle.fields_core.proofs.Common.{arith, common_steps, mul-le-mul_right, row-at, ◌∙◌}
use Rattle.fields_core.proofs.RunLemmas.{row-made}
use Rattle.fields_core.proofs.HouseLemmas.{row-long}
use Rattle.fields_core.proofs.count.house.Segment.row.Goals as goal

pub returns-clause-within : goal.returns-clause-within
returns-clause-within c = λ k lt.
    let e = c.of.ensures ∙ row-made c.args.size c.args.y (c.from-w.ensures ∙ c.w.ensures.value) in
    rw e (grind (arith, common_steps, row-long, row-at, mul-le-mul_right))
