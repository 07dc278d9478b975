use Rattle.gameid_core.specs.Common.{each_below, row_text, string_bytes, ◌*◌, ◌++◌, ◌+◌, ◌≡◌}
use Rattle.gameid_core.proofs.grids.writer.push_grid.Given as goal

abbrev pub invariant-loop-y : goal.invariant-loop-y
invariant-loop-y g l =
    string_bytes l.text ++ l.piece ≡ string_bytes l.fn.text ++ each_below
    (row_text (g.P.Printed.cell_text l.puzzle l.grid) (g.P.Printed.extent l.puzzle)) l.y

abbrev pub invariant-loop-x : goal.invariant-loop-x
invariant-loop-x g l =
    let cell = g.P.Printed.cell_text l.puzzle l.grid in
    string_bytes l.text ++ l.piece ≡ (string_bytes l.fn.text ++ each_below (row_text cell (g.P.Printed.extent l.puzzle)) l.y)
    ++ each_below (λ x. cell (l.y * l.w + x)) l.x
