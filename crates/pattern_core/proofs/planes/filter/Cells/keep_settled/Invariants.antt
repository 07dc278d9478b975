use Rattle.pattern_core.proofs.Common.{along, sets_by, slots_of}
use Rattle.pattern_core.proofs.TableSteps.{AreReached}
use Rattle.pattern_core.proofs.planes.filter.Cells.keep_settled.Given as goal

abbrev pub invariant-loop-at : goal.invariant-loop-at
invariant-loop-at g l =
    let has = slots_of g.P.Word.bits in let bits = g.W.Word.bits in
    AreReached g.P.Word.room (along has l.steps) (sets_by (bits l.fn.self.white) (bits l.fn.self.black) l.count) (has l.reached) l.at
