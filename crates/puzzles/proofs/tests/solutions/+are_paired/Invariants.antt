use Rattle.puzzles.proofs.tests.solutions.+are_paired.Given as goal

abbrev pub decreases-are_paired : goal.decreases-are_paired
decreases-are_paired l = l.left
