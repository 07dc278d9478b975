use Rattle.gameid_core.specs.Common.{Extent, ap, arith, common_steps, row_text, ◌≡◌, ◌∙◌}
use Rattle.gameid_core.proofs.LineLaws.{below_more}
use Rattle.gameid_core.proofs.grids.writer.push_grid.Goals as goal

pub loop-y-preserved : goal.loop-y-preserved
loop-y-preserved g c =
    let size = g.P.Printed.extent c.args.puzzle.now in
    let wide : c.from-w.result ≡ size.w = c.from-w.ensures ∙ c.w.ensures.value ∙ ap (λ (e : Extent). e.w) c.grid_size-size.ensures in
    let all : c.loop-x.x ≡ c.from-w.result = omega arith in
    let row = rw (all, wide) at c.loop-x.invariant in
    grind (arith, common_steps, row, below_more (row_text (g.P.Printed.cell_text c.args.puzzle.now c.args.grid.now) size) c.loop-y.y)
