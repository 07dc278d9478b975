use Rattle.std.proofs.Common.{ap, arith, ℕ, ◌∙◌}
use Rattle.core_tests.specs.Neighbours.{is_row}
use Rattle.core_tests.proofs.NeighboursLemmas.{row-first, row-more}
use Rattle.core_tests.proofs.own_rules.neighbours.NeighboursRules.accept.Goals as goal

pub loop-house-init : goal.loop-house-init
loop-house-init g c = row-first c.args.grid.now c.get-holds.ensures

pub loop-house-preserved : goal.loop-house-preserved
loop-house-preserved g c = row-more c.loop-house.house c.args.grid.now c.loop-house.invariant c.get.ensures c.get-in-loop-house.ensures

pub returns-clause-solution : goal.returns-clause-solution
returns-clause-solution g c = c.loop-house.invariant ∙ ap (λ (n : ℕ). is_row n c.args.grid.now) (omega arith)
