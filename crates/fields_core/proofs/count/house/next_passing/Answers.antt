use Rattle.fields_core.proofs.Common.{arith, cases_eq, inl, inr, sym, ◌∙◌}
use Rattle.fields_core.proofs.count.house.next_passing.Goals as goal

pub returns-then-passes : goal.returns-then-passes
returns-then-passes g c = λ test tests.
    let lt = c.loop-number-test.true in
    (omega (arith, c.loop-number.auto.number), omega (arith, lt), sym (tests _ _ (omega (arith, lt)) c.passes.ensures) ∙ c.if-passes.true, c.loop-number.invariant test tests)

pub loop-number-preserved : goal.loop-number-preserved
loop-number-preserved g c = λ test tests j at less. elim (cases_eq j c.loop-number.number) [
  | inl e ↦ rw e (sym (tests _ _ (omega (arith, c.loop-number-test.true)) c.passes.ensures) ∙ c.if-passes.false)
  | inr ne ↦ c.loop-number.invariant test tests j at (omega arith)
]

pub returns : goal.returns
returns g c = λ test tests j at less. c.loop-number.invariant test tests j at (omega (arith, less, c.loop-number-test.false))
