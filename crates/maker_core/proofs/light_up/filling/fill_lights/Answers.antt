use Rattle.std.proofs.lemmas.Grind.{common_steps}
use Rattle.std.proofs.Common.{arith}
use Rattle.maker_core.proofs.Common.{ap, black_cells, light_filling, light_puzzle_of, lights_of, refl, sym, ◌∙◌}
use Rattle.maker_core.proofs.light_up.filling.fill_lights.Goals as goal

pub returns-clause-drawn : goal.returns-clause-drawn
unfolding light_filling
returns-clause-drawn g c =
    let drawn = c.in_ok-black.ensures.drawn ∙ ap (λ cells. black_cells c.args.black cells (g.G.Rng.stream c.args.rng.now)) c.cells.ensures.value in
    rw (sym drawn, sym c.in_ok-puzzle.ensures, sym c.in_ok-bulbs.ensures.drawn) refl

pub returns-clause-lit : goal.returns-clause-lit
unfolding light_puzzle_of lights_of
returns-clause-lit g c =
    grind (arith, common_steps, c.cells.ensures.value, c.in_ok-black.ensures.grid, c.in_ok-puzzle.ensures, c.in_ok-bulbs.ensures.grid, c.in_ok-bulbs.ensures.solved)
