use Rattle.maker_core.proofs.Common.{lines_of_groups, shuffled_order, ◌≡◌}
use Rattle.maker_core.proofs.Shuffles.{AreGrouped}
use Rattle.maker_core.proofs.solo.filling.line_order.Given as goal

abbrev pub invariant-loop-k : goal.invariant-loop-k
invariant-loop-k g l = record {
  drawn : (l.lines.items, g.G.Rng.stream l.rng) ≡ lines_of_groups l.size l.groups.items l.k (shuffled_order l.count (g.G.Rng.stream l.fn.rng)).1;
  grouped : AreGrouped l.size l.groups.items l.k l.lines.items;
}
