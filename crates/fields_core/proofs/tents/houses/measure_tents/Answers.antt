use Rattle.fields_core.proofs.Common.{ap, arith, cases_Bool, common_steps, max, mul-le-mul_right, tent_cells, tree, ◌*◌, ◌-◌, ◌∙◌, ◌≡◌, ◌≤◌}
use Rattle.fields_core.proofs.MeasureLemmas.{tents-measured, trees-more, trees-none}
use Rattle.fields_core.proofs.tents.houses.measure_tents.Goals as goal
use Rattle.fields_core.proofs.tents.houses.measure_tents.Goals.{After-cells-place-end, After-from-houses}

-- the numbers of columns, of rows and of cells
wide : (c : After-cells-place-end) → c.from-w.result ≡ c.args.puzzle.now.size.w
wide c = rw c.size-size.ensures.value at (c.from-w.ensures ∙ c.w.ensures.value)

high : (c : After-cells-place-end) → c.from-h.result ≡ c.args.puzzle.now.size.h
high c = rw c.size-size.ensures.value at (c.from-h.ensures ∙ c.h.ensures.value)

whole : (c : After-cells-place-end) → c.cells-place-end.result ≡ tent_cells c.args.puzzle.now
whole c = rw c.size-size.ensures.value at c.cells-place-end.ensures.value

one : (c : After-from-houses) → c.from-houses.result ≤ 1
one c = grind (arith, common_steps, cases_Bool c.is_tree.result)

pub loop-place-init : goal.loop-place-init
loop-place-init c = record { counted = omega (arith, trees-none c.args.puzzle.now); few = omega arith }

pub overflow_add-houses-in-loop-place : goal.overflow_add-houses-in-loop-place
overflow_add-houses-in-loop-place c =
    let ends = (goal.at.overflow_add-houses-in-loop-place c).After-cells-place-end in
    let p = c.args.puzzle.now in let size = c.size-size.ensures.lawful.size.extent in
    let squares : (p.size.w - 1) * (p.size.h - 1) ≤ 120 * (p.size.h - 1) = mul-le-mul_right (p.size.h - 1) (omega (arith, size.w_high)) in
    let cells = mul-le-mul_right p.size.h size.w_high in let few = rw (wide ends, high ends) at c.loop-place.invariant.few in
    omega (arith, one (goal.at.overflow_add-houses-in-loop-place c).After-from-houses, few, c.loop-place-test.true, whole ends, size.w_high, size.h_high, squares, cells)

pub loop-place-preserved : goal.loop-place-preserved
loop-place-preserved c =
    let p = c.args.puzzle.now in let i = c.loop-place.invariant in
    record {
      counted = grind (arith, common_steps, cases_Bool (tree p c.loop-place.place), trees-more p c.loop-place.place, i.counted);
      few = omega (arith, i.few, one (goal.at.loop-place-preserved c).After-from-houses);
    }

pub returns-clause-measured : goal.returns-clause-measured
returns-clause-measured c =
    let p = c.args.puzzle.now in let ends = (goal.at.returns-clause-measured c).After-cells-place-end in
    let all : c.loop-place.place ≡ tent_cells p = omega (arith, c.loop-place-test.false, c.loop-place.auto.place-end, whole ends) in
    tents-measured c.size-size.ensures.lawful (rw (wide ends, high ends, all) at c.loop-place.invariant.counted)
    (rw (wide ends, high ends) at (c.max-2.ensures ∙ ap (λ n. max n 4) c.max.ensures))
