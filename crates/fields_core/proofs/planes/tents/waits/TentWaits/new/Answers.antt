use Rattle.fields_core.proofs.Common.{AreLinesOf, eq-eqb, planes_have, refl, sym, tent_counts, true≢false, ◌%◌, ◌/◌, ◌∙◌}
use Rattle.fields_core.proofs.TentWaits.{place-in_planes, rested-at}
use Rattle.fields_core.proofs.PlaneSweeps.{around-some}
use Rattle.fields_core.proofs.planes.tents.waits.TentWaits.new.Goals as goal
use Rattle.fields_core.proofs.planes.tents.waits.TentWaits.new.Goals.{After-one-2}

pub has-requires-clause-place_in : goal.has-requires-clause-place_in
has-requires-clause-place_in g c = place-in_planes c.args.puzzle.now c.args.planes.now c.requires.board.same_size c.in-Some.is c.requires.closed_but

-- the lines of the cell
lines : (g : _) (c : After-one-2 g) → AreLinesOf g.W.Word.bits (record { columns = c.one.result; rows = c.one-2.result })
    (c.in-Some.place / c.args.puzzle.now.size.w) (c.in-Some.place % c.args.puzzle.now.size.w)
lines g c =
    (c.one.ensures _ ∙ rw (c.split-y.ensures.column, c.requires.board.same_size) (eq-eqb _ _ refl), c.one-2.ensures _ ∙ rw (c.split-y.ensures.row, c.requires.board.same_size) (eq-eqb _ _ refl))

pub returns-then-has : goal.returns-then-has
returns-then-has g c =
    rested-at c.requires.lawful c.split-y.ensures.lawful c.requires.board.same_size (rw (c.in-Some.is) at c.requires.closed_but)
    (λ _. lines g (goal.at.returns-then-has g c).After-one-2) (λ off. absurd (true≢false (sym c.if-has.true ∙ c.has.ensures ∙ off))) c.woken.ensures

pub returns : goal.returns
returns g c =
    let around = rw (c.in-Some.is) at c.requires.closed_but in
    rested-at c.requires.lawful c.split-y.ensures.lawful c.requires.board.same_size around
    (λ off. absurd (around-some (tent_counts c.args.puzzle.now) around (sym c.has.ensures ∙ c.if-has.false) off)) (λ _. lines g (goal.at.returns g c).After-one-2) c.woken-2.ensures

pub returns-in_default : goal.returns-in_default
returns-in_default g c = c.all.ensures c.args.puzzle.now (planes_have c.args.planes.now) c.requires.board.suited
