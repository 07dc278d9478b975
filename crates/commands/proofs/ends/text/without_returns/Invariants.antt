use Rattle.commands.proofs.Common.{length, without_returns, ◌++◌, ◌≡◌}
use Rattle.commands.proofs.ends.text.without_returns.Given as goal

abbrev pub invariant-loop-byte : goal.invariant-loop-byte
invariant-loop-byte l = l.kept.items ++ without_returns l.rest ≡ without_returns l.fn.text

abbrev pub decreases-loop-byte : goal.decreases-loop-byte
decreases-loop-byte l = length l.rest
