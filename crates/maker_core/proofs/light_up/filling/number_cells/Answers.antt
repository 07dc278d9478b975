use Rattle.maker_core.proofs.Common.{ap, arith, rules, ◌*◌, ◌∙◌}
use Rattle.maker_core.proofs.LightMakings.{numbered_all, bulbs_few}
use Rattle.maker_core.proofs.light_up.filling.number_cells.Goals as goal

pub overflow_cast-bulbs : goal.overflow_cast-bulbs
overflow_cast-bulbs c = let few = bulbs_few c.loop-place.puzzle c.args.grid.now c.loop-place.place in let is = c.count_beside-bulbs.ensures in search rules

pub set_cell-requires-clause-cell : goal.set_cell-requires-clause-cell
set_cell-requires-clause-cell c = omega (arith, bulbs_few c.loop-place.puzzle c.args.grid.now c.loop-place.place, c.count_beside-bulbs.ensures)

pub returns : goal.returns
returns c =
    let cells = c.cells-place-end.ensures.value ∙ ap (λ s. s.w * s.h) c.size.ensures.value in
    numbered_all _ _ _ c.loop-place.invariant (omega arith)
