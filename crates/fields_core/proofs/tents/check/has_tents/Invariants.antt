use Rattle.fields_core.proofs.Common.{segment_places}
use Rattle.fields_core.proofs.TentLines.{IsLineCounted}
use Rattle.fields_core.proofs.tents.check.has_tents.Given as goal

abbrev pub invariant-loop-k : goal.invariant-loop-k
invariant-loop-k l = IsLineCounted l.grid (segment_places l.run) l.k l.tents
