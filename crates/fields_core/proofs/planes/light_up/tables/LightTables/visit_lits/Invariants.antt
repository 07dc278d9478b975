use Rattle.fields_core.proofs.Common.{AreSafeInColumns, planes_have, has_bit, lit_house, ◌*◌, ◌+◌}
use Rattle.fields_core.proofs.IdleLemmas.{AreLinesPassed, places_on}
use Rattle.fields_core.proofs.planes.light_up.tables.LightTables.visit_lits.Given as goal

abbrev pub invariant-loop-ones : goal.invariant-loop-ones
invariant-loop-ones g l = record {
  passed : AreLinesPassed (λ x. lit_house l.puzzle (l.y * l.puzzle.size.w + x)) l.puzzle.size.w (has_bit (g.W.Word.bits l.left)) l.fn.planes l.planes;
  met : AreSafeInColumns l.puzzle l.y (g.W.Word.bits l.met) (planes_have l.planes);
}

abbrev pub decreases-loop-ones : goal.decreases-loop-ones
decreases-loop-ones g l = places_on (has_bit (g.W.Word.bits l.left)) g.W.Word.room
