use Rattle.pattern_core.proofs.Common.{is_solution-from, is_solution-is}
use Rattle.pattern_core.proofs.laws.accepted_are_solutions.Goals as goal

pub returns : goal.returns
returns c = λ p g grid. (is_solution-is p g grid, is_solution-from p g)
