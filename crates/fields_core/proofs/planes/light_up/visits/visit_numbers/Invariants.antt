use Rattle.fields_core.proofs.Common.{has_bit, number_house, ◌*◌, ◌+◌}
use Rattle.fields_core.proofs.IdleLemmas.{AreLinesPassed, places_on}
use Rattle.fields_core.proofs.planes.light_up.visits.visit_numbers.Given as goal

abbrev pub invariant-loop-own : goal.invariant-loop-own
invariant-loop-own g l = record {
  passed : AreLinesPassed (λ x. number_house l.puzzle (l.y * l.puzzle.size.w + x)) l.puzzle.size.w (has_bit (g.W.Word.bits l.left)) l.fn.planes l.planes;
}

abbrev pub decreases-loop-own : goal.decreases-loop-own
decreases-loop-own g l = places_on (has_bit (g.W.Word.bits l.left)) g.W.Word.room
