use Rattle.fields_core.proofs.Common.{count_below, has_bit, map, slice_index, ◌*◌, ◌+◌}
use Rattle.fields_core.proofs.LightRunLines.{AreAroundDone}
use Rattle.fields_core.proofs.planes.light_up.visits.around.Given as goal

abbrev pub invariant-loop-rest : goal.invariant-loop-rest
invariant-loop-rest g l = AreAroundDone (λ k. slice_index (map g.W.Word.bits l.runs) (l.first + k * l.stride)) g.W.Word.room (g.W.Word.bits l.fn.marked) (g.W.Word.bits l.rest) (g.W.Word.bits l.bits)

abbrev pub decreases-loop-rest : goal.decreases-loop-rest
decreases-loop-rest g l = count_below (has_bit (g.W.Word.bits l.rest)) g.W.Word.room
