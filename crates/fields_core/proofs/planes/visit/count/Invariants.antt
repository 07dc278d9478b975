use Rattle.fields_core.proofs.Common.{IsCount, pieces_of}
use Rattle.fields_core.proofs.planes.visit.count.Given as goal

abbrev pub invariant-loop-number : goal.invariant-loop-number
invariant-loop-number g l = IsCount l.planes (pieces_of g.W.Word.bits l.parts) l.number l.may l.undecided
