use Rattle.fields_core.proofs.Common.{arith, column-at, common_steps, mul-le-mul_right, ◌∙◌}
use Rattle.fields_core.proofs.RunLemmas.{column-made}
use Rattle.fields_core.proofs.HouseLemmas.{column-long}
use Rattle.fields_core.proofs.count.house.Segment.column.Goals as goal

pub returns-clause-within : goal.returns-clause-within
returns-clause-within c = λ k lt.
    let e = c.of.ensures ∙ column-made c.args.size c.args.x (c.from.ensures ∙ c.w.ensures.value) (c.from-2.ensures ∙ c.h.ensures.value) in
    rw e (grind (arith, common_steps, column-long, column-at, mul-le-mul_right))
