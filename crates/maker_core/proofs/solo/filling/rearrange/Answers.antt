use Rattle.maker_core.proofs.Common.{arith, same_number_lists, sym, ◌∙◌}
use Rattle.maker_core.proofs.SoloSolution.{length-rearranged, is_solution_of_all}
use Rattle.maker_core.proofs.solo.filling.rearrange.Goals as goal

pub returns-clause-solution : goal.returns-clause-solution
returns-clause-solution c =
    let a = c.args in
    let i = c.loop-place.invariant in
    rw (same_number_lists _ _ (i.long ∙ sym (length-rearranged a.c a.r a.numbers.now a.lines.rows.now a.lines.columns.now))
    (λ k lt. let long = i.long in i.same k (omega arith)))
    (is_solution_of_all a.c a.r a.numbers.now a.lines.rows.now a.lines.columns.now c.requires)
