use Rattle.std.proofs.Common.{◌≡◌}
use Rattle.core_tests.specs.Neighbours.{is_row}
use Rattle.core_tests.proofs.own_rules.neighbours.NeighboursRules.accept.Given as goal

abbrev pub invariant-loop-house : goal.invariant-loop-house
invariant-loop-house g l = l.holds ≡ is_row l.house l.grid
