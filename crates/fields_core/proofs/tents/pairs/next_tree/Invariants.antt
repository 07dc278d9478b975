use Rattle.fields_core.proofs.TentLines.{AreDirectionsPassed}
use Rattle.fields_core.proofs.tents.pairs.next_tree.Given as goal

abbrev pub invariant-loop-direction : goal.invariant-loop-direction
invariant-loop-direction l = AreDirectionsPassed l.puzzle l.place l.from l.direction
