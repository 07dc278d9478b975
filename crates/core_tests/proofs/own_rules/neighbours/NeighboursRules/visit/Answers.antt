use Rattle.grid_core.proofs.BoardLemmas.{has-within}
use Rattle.engine_core.specs.RuleSystem.{after}
use Rattle.core_tests.proofs.NeighboursLemmas.{visited}
use Rattle.core_tests.proofs.own_rules.neighbours.NeighboursRules.visit.Goals as goal

pub returns-clause-left : goal.returns-clause-left
unfolding after
returns-clause-left g c = rw (← c.requires.board_of.same_values) (visited c.args.house c.kept_beside.result c.kept_beside-2.result
    (λ d v on. (has-within c.args.board.now d v on).1) c.kept_beside.ensures c.kept_beside-2.ensures c.apply.ensures.left)
