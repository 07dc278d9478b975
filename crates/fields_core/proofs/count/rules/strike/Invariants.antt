use Rattle.fields_core.proofs.Common.{IsStriking, SameShape, house_told}
use Rattle.grid_core.specs.Board.{has}
use Rattle.fields_core.proofs.CountKept.{IsPartly}
use Rattle.fields_core.proofs.count.rules.strike.Given as goal

abbrev pub invariant-loop-k : goal.invariant-loop-k
invariant-loop-k l = record {
  left : IsPartly (house_told l.house) l.k (has l.fn.board) (has l.board);
  striking : IsStriking (has l.fn.board) (has l.board) l.struck;
  shape : SameShape l.fn.board l.board;
}
