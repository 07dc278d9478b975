use Rattle.commands.proofs.Common.{AllowsTask, Gathered, Text, length, ◌++◌, ◌≡◌}
use Rattle.commands.proofs.batch.Batch.take_bytes.Given as goal

abbrev pub invariant-loop-line : goal.invariant-loop-line
invariant-loop-line l = (before : Text) × (l.bytes ≡ before ++ l.rest) × ((seen written : Text)
    → Gathered (AllowsTask l.task) l.fn.self seen written → Gathered (AllowsTask l.task) l.self (seen ++ before) written)

abbrev pub decreases-loop-line : goal.decreases-loop-line
decreases-loop-line l = length l.rest
