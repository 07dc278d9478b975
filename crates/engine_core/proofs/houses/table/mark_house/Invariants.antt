use Rattle.engine_core.proofs.Common.{HasMarked, length, take, ◌≡◌}
use Rattle.engine_core.proofs.houses.table.mark_house.Given as goal

abbrev pub invariant-loop-k : goal.invariant-loop-k
invariant-loop-k l = record {
  as_many : length l.marks ≡ length l.fn.marks;
  marked : HasMarked l.words l.house (take l.k l.places) l.fn.marks l.marks;
}
