use Rattle.std.proofs.Common.{◌-◌}
use Rattle.core_tests.proofs.small.houses.House.+try_from.Given as goal

abbrev pub decreases-try_from : goal.decreases-try_from
decreases-try_from l = 36 - l.cell
