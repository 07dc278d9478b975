use Rattle.std.proofs.Common.{◌-◌}
use Rattle.core_tests.proofs.small.puzzles.Small.+are_paired.Given as goal

abbrev pub decreases-are_paired : goal.decreases-are_paired
decreases-are_paired l = 36 - l.cell
