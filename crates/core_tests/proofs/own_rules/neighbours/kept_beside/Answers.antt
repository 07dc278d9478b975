use Rattle.std.proofs.Common.{ap, arith, eqb, not, sym, ◌∙◌}
use Rattle.std.proofs.lemmas.Nat.Bits.{bit_at-zero}
use Rattle.core_tests.proofs.NeighboursLemmas.{flipped, other-none, other-one, other-more}
use Rattle.core_tests.proofs.own_rules.neighbours.kept_beside.Goals as goal

pub returns-in-0 : goal.returns-in-0
returns-in-0 c = λ v lt. ap (λ b. eqb b 1) (bit_at-zero v) ∙ sym (other-none _ _ v (sym c.count.ensures ∙ c.in-0.is))

pub returns-in-1 : goal.returns-in-1
returns-in-1 c = λ v lt. flipped c.bits.result v c.bits.type_inv (omega arith) ∙ ap not (c.bits.ensures.same v lt)
    ∙ sym (other-one _ _ v (sym c.count.ensures ∙ c.in-1.is) lt)

pub returns-in_default : goal.returns-in_default
returns-in_default c = λ v lt. flipped 0 v (omega arith) (omega arith) ∙ ap (λ b. not (eqb b 1)) (bit_at-zero v)
    ∙ sym (other-more _ _ v (omega arith))
