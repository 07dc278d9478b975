use Rattle.fields_core.proofs.Common.{IsLatest, length, line_white, ◌*◌, ◌+◌, ◌≤◌}
use Rattle.fields_core.proofs.MeasureLemmas.{AreCounted}
use Rattle.fields_core.proofs.RunLemmas.{AreColumnsKept}
use Rattle.fields_core.proofs.light_up.houses.measure_lights.Given as goal

abbrev pub invariant-loop-y : goal.invariant-loop-y
invariant-loop-y l = record {
  counted : AreCounted l.puzzle (l.y * l.puzzle.size.w) l.measured;
  columns : AreColumnsKept l.puzzle l.columns l.y 0;
  wide : l.puzzle.size.w ≤ length l.columns;
}

abbrev pub invariant-loop-x : goal.invariant-loop-x
invariant-loop-x l = record {
  counted : AreCounted l.puzzle (l.y * l.puzzle.size.w + l.x) l.measured;
  row : IsLatest (line_white l.puzzle (l.y * l.puzzle.size.w) 1) l.puzzle.size.w l.x l.row;
  columns : AreColumnsKept l.puzzle l.columns l.y l.x;
  wide : l.puzzle.size.w ≤ length l.columns;
}
