use Rattle.fields_core.proofs.Common.{[], ap, sym, ◌∙◌, ◌∷◌}
use Rattle.fields_core.proofs.LightCompleting.{lit-told}
use Rattle.fields_core.proofs.light_up.light_house.lit_told.Goals as goal

pub returns : goal.returns
returns c =
    let row = c.row-row.ensures in let column = c.column-column.ensures in
    lit-told c.args.puzzle.now c.args.y c.segment.result c.segment-2.result c.segment-3.result c.none.result c.requires.x_in c.requires.white
    (rw (row.puzzle, row.first, row.stride, row.len) at c.run-left.ensures)
    (rw (column.puzzle, column.first, column.stride, column.len) at c.run-top.ensures)
    (rw (row.first, row.stride) at c.segment.ensures) (rw (column.first, column.stride) at c.segment-2.ensures)
    (rw (column.first, column.stride) at c.segment-3.ensures) c.none.ensures
    ∙ ap (λ h. h ∷ []) (sym c.one_at_least.ensures)
