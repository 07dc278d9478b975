use Rattle.engine_core.specs.RuleSystem.{needs_of}
use Rattle.core_tests.proofs.small.beside.solutions.Given as goal

abbrev pub invariant-loop-number : goal.invariant-loop-number
invariant-loop-number g l = g.R.Rules.serves l.scratch (needs_of (g.R.Rules.system l.rules))
