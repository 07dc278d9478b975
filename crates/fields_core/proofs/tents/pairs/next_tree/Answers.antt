use Rattle.fields_core.proofs.Common.{ap, step, sym, ◌∙◌}
use Rattle.fields_core.proofs.TentLines.{next-found}
use Rattle.fields_core.proofs.tents.pairs.next_tree.Goals as goal

pub returns-then-numbers-other : goal.returns-then-numbers-other
returns-then-numbers-other c = next-found c.size-size.ensures.lawful.size.w_two c.loop-direction.invariant c.loop-direction-test.true
    (c.in-Some.ensures.cell ∙ ap (λ s. step s c.args.place c.loop-direction.direction)
    c.size-size.ensures.value) (rw c.size-size.ensures.value at c.in-Some.ensures.within)
    (sym c.is_tree.ensures ∙ c.if-is_tree.true)
    (c.requires.numbered.each c.in-Some.other (rw c.size-size.ensures.value at c.in-Some.ensures.within)) c.if-numbers-other.true
