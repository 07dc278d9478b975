use Rattle.maker_core.proofs.Common.{FitsIn, IsThinning, drop, needs_of}
use Rattle.maker_core.proofs.thinning.thin.try_clues.Given as goal

abbrev pub invariant-loop-place : goal.invariant-loop-place
invariant-loop-place g l = record {
  thinning : IsThinning g.P.Clued.game l.budget l.fn.puzzle l.puzzle l.whys.items (drop l.place-index l.order);
  fits : FitsIn (needs_of (g.P.Clued.game.rules l.puzzle)) l.store.made;
}
