use Rattle.pattern_core.proofs.Common.{AreRows, along, sets_by, slots_of, ◌≤◌}
use Rattle.pattern_core.proofs.planes.filter.Cells.fill_rows.Given as goal

abbrev pub invariant-loop-at : goal.invariant-loop-at
invariant-loop-at g l =
    (l.at ≤ l.count)
    × AreRows (slots_of g.P.Word.bits) (along (slots_of g.P.Word.bits) l.steps) (sets_by (g.W.Word.bits l.self.white) (g.W.Word.bits l.self.black) l.count) l.rows l.at

abbrev pub decreases-loop-at : goal.decreases-loop-at
decreases-loop-at g l = l.at
