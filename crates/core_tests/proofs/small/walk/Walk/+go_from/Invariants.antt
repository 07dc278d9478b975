use Rattle.std.proofs.Common.{◌-◌}
use Rattle.core_tests.proofs.small.walk.Walk.+go_from.Given as goal

abbrev pub decreases-go_from : goal.decreases-go_from
decreases-go_from l = 37 - l.depth
