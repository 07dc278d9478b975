use Rattle.pattern_core.proofs.Common.{along, slots_of, sets_by}
use Rattle.pattern_core.proofs.LineWords.{IsCellShown, IsShownTo}
use Rattle.pattern_core.proofs.TableSteps.{AreReached}
use Rattle.pattern_core.proofs.planes.filter.Cells.keep.Given as goal

abbrev pub invariant-loop-at : goal.invariant-loop-at
invariant-loop-at g l =
    let bits = g.W.Word.bits in let t = along (slots_of g.P.Word.bits) l.steps in
    let white = bits l.self.white in let black = bits l.self.black in
    IsShownTo (bits l.white) (IsCellShown t white black l.count 0) l.at
    × IsShownTo (bits l.black) (IsCellShown t white black l.count 1) l.at
    × AreReached g.P.Word.room t (sets_by white black l.count) (slots_of g.P.Word.bits l.reached) l.at
