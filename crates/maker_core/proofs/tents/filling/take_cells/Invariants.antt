use Rattle.maker_core.proofs.Common.{tents_after, ◌≡◌}
use Rattle.maker_core.proofs.TentsSolved.{IsFillingAfter}
use Rattle.maker_core.proofs.tents.filling.take_cells.Given as goal

abbrev pub invariant-loop-k : goal.invariant-loop-k
invariant-loop-k g l = record {
  drawn : (l.filling, g.G.Rng.stream l.rng) ≡ tents_after l.fn.size l.fn.order l.k (g.G.Rng.stream l.fn.rng);
  filling : IsFillingAfter l.fn.size l.fn.order l.k l.filling;
}
