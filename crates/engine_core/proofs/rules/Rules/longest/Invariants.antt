use Rattle.engine_core.proofs.Common.{longest, ◌≡◌}
use Rattle.engine_core.proofs.rules.Rules.longest.Given as goal

abbrev pub invariant-loop-house : goal.invariant-loop-house
invariant-loop-house g l = l.cells ≡ longest (g.Self.Rules.system l.self).scope l.house
