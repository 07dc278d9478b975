use Rattle.fields_core.proofs.Common.{AreLinesOf, eq-eqb, planes_have, light_counts, refl, sym, true≢false, ◌%◌, ◌/◌, ◌∙◌, ◌≡◌}
use Rattle.fields_core.proofs.LightSweeps.{lines-at}
use Rattle.fields_core.proofs.PlaneSweeps.{around-some}
use Rattle.fields_core.proofs.planes.light_up.waits.LightWaits.begin.Goals as goal
use Rattle.fields_core.proofs.planes.light_up.waits.LightWaits.begin.Goals.{After-has}

-- the lines of the cell
own : (g : _) (c : After-has g) → AreLinesOf g.W.Word.bits (record { columns = c.one.result; rows = c.one-2.result })
    (c.in-Some.place / c.args._puzzle.now.size.w) (c.in-Some.place % c.args._puzzle.now.size.w)
own g c = rw (← c.requires.planes.size) (c.one.ensures _ ∙ rw (c.split-y.ensures.column) (eq-eqb _ _ refl), c.one-2.ensures _ ∙ rw (c.split-y.ensures.row) (eq-eqb _ _ refl))

-- whether it can have 1
one-is : (g : _) (c : After-has g) → c.has.result ≡ planes_have c.args.planes.now c.in-Some.place 1
unfolding planes_have
one-is g c = c.has.ensures ∙ c.row.ensures.cells _ ∙ rw (c.split-y.ensures.column, c.split-y.ensures.row) refl

pub returns-then-has : goal.returns-then-has
returns-then-has g c =
    let a = (goal.at.returns-then-has g c).After-has in
    lines-at c.requires.planes (rw (c.in-Some.is) at c.requires.closed_but)
    (λ _. own g a) (λ off. absurd (true≢false (sym c.if-has.true ∙ one-is g a ∙ off))) c.woken.ensures

pub returns : goal.returns
returns g c =
    let a = (goal.at.returns g c).After-has in
    lines-at c.requires.planes (rw (c.in-Some.is) at c.requires.closed_but)
    (λ off. absurd (around-some (light_counts c.args._puzzle.now) (rw (c.in-Some.is) at c.requires.closed_but) (sym (one-is g a) ∙ c.if-has.false) off)) (λ _. own g a) c.woken-2.ensures
