use Rattle.std.proofs.Common.{arith}
use Rattle.core_tests.specs.NeighboursLaws.{pair-has}
use Rattle.core_tests.proofs.NeighboursLemmas.{pair-out}
use Rattle.core_tests.proofs.own_rules.neighbours.NeighboursRules.house_at.Goals as goal
use Rattle.core_tests.proofs.own_rules.neighbours.NeighboursRules.house_at.Goals.{then-first-place-via-then-first-place, then-first-place-via-else-first-place+then-first-self}

pub returns-then-first-place : goal.returns-then-first-place
returns-then-first-place g c = λ j le lt. pair-out j c.args.place (elim c.then-first-place.branch [
  | then-first-place-via-then-first-place w ↦ omega arith
  | then-first-place-via-else-first-place+then-first-self w ↦ omega arith
])

pub returns : goal.returns
returns g c = (
  omega arith,
  omega arith,
  pair-has c.max-first.result c.args.place (omega arith) (omega arith),
  λ j le lt. pair-out j c.args.place (omega arith),
)
