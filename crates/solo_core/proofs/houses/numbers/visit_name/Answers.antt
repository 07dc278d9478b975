use Rattle.std.proofs.Common.{◌∙◌, sym, ap, arith}
use Rattle.solo_core.specs.declared.houses.visit.VisitName.TheVariants as scope
use Rattle.solo_core.proofs.HouseLemmas.{house-named}
use Rattle.solo_core.proofs.houses.numbers.visit_name.Goals as goal

pub returns-then-number-count : goal.returns-then-number-count
returns-then-number-count c =
    λ other. ap scope.House (c.house.ensures.at c.house.result)
    ∙ sym (house-named c.args.puzzle.now c.args.number other c.house.result (omega arith))
