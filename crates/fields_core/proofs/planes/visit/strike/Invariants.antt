use Rattle.fields_core.proofs.Common.{IsFurther, planes_have, pieces_of, without_value, ◌≡◌}
use Rattle.fields_core.proofs.planes.visit.strike.Given as goal

abbrev pub invariant-loop-number : goal.invariant-loop-number
invariant-loop-number g l = record {
  left : planes_have l.planes ≡ without_value l.fn.planes.size.w (pieces_of g.W.Word.bits l.parts) l.number l.value (planes_have l.fn.planes);
  further : IsFurther l.fn.planes l.planes;
}
