use Rattle.fields_core.proofs.Common.{count_below, has_bit}
use Rattle.fields_core.proofs.LightReach.{IsLast}
use Rattle.fields_core.proofs.planes.light_up.reach.highest.Given as goal

abbrev pub invariant-loop-place : goal.invariant-loop-place
invariant-loop-place g l = record {
  last : IsLast (has_bit (g.W.Word.bits l.fn.word)) (has_bit (g.W.Word.bits l.rest)) g.W.Word.room l.place;
}

abbrev pub decreases-loop-place : goal.decreases-loop-place
decreases-loop-place g l = count_below (has_bit (g.W.Word.bits l.rest)) g.W.Word.room
