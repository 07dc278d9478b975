use Rattle.engine_core.proofs.Common.{SameShape, has, kept_in, ◌≡◌}
use Rattle.engine_core.proofs.HouseLemmas.{IsStriking}
use Rattle.engine_core.proofs.houses.visit.apply.Given as goal

abbrev pub invariant-loop-k : goal.invariant-loop-k
invariant-loop-k l = record {
  left : has l.board ≡ kept_in l.places l.kept l.k (has l.fn.board);
  striking : IsStriking (has l.fn.board) (has l.board) l.struck;
  shape : SameShape l.fn.board l.board;
}
