use Rattle.fields_core.proofs.Common.{AreWordsFilled, length, map, ◌≡◌}
use Rattle.fields_core.proofs.planes.light_up.tables.fill.Given as goal

abbrev pub invariant-loop-at : goal.invariant-loop-at
invariant-loop-at g l = record {
  filled : AreWordsFilled l.first l.stride l.start l.at (g.W.Word.bits l.word) (map g.W.Word.bits l.fn.runs.items) (map g.W.Word.bits l.runs.items);
  long : length l.runs.items ≡ length l.fn.runs.items;
}
