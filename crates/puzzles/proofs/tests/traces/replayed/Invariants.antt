use Rattle.engine_core.specs.RuleSystem.{IsBoardOf, needs_of}
use Rattle.puzzles.proofs.tests.traces.replayed.Given as goal

abbrev pub invariant-loop-house : goal.invariant-loop-house
invariant-loop-house g l = IsBoardOf (g.R.Rules.system l.rules) l.board × g.R.Rules.serves l.scratch (needs_of (g.R.Rules.system l.rules))
