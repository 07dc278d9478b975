use Rattle.maker_core.proofs.PatternMakings.{IsPartDrawn}
use Rattle.maker_core.proofs.black.draw_black.Given as goal

abbrev pub invariant-loop-place : goal.invariant-loop-place
invariant-loop-place g l = IsPartDrawn l.fn.black l.fn.cells l.place (g.G.Rng.stream l.fn.rng) (g.G.Rng.stream l.rng) l.grid
