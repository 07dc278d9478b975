use Rattle.maker_core.proofs.TentsSolved.{filling_at_solves}
use Rattle.maker_core.proofs.laws.fillings_of_tents_are_solutions.Goals as goal

pub returns-clause-solved : goal.returns-clause-solved
returns-clause-solved c = λ size s k extent words. (filling_at_solves extent words k).solves
