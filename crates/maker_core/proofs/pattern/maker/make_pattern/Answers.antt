use Rattle.maker_core.proofs.Common.{IsPatternSolution, is_solution-from, is_solution-is, line_rules, refl}
use Rattle.maker_core.proofs.FirstTries.{draws_first, one_is}
use Rattle.maker_core.proofs.pattern.maker.make_pattern.Goals as goal

pub returns-clause-made : goal.returns-clause-made
returns-clause-made g c =
    let made = c.in_ok-answer.ensures in
    let puzzle = c.in_ok-puzzle.ensures in
    let p = c.in_ok-puzzle.puzzle in
    let only = one_is (line_rules p) (IsPatternSolution p) (λ h s. s.grid) (λ h grid. (is_solution-is p h grid, is_solution-from p h))
    (rw puzzle.puzzle (made.known.1 refl)) puzzle.solved in
    record {
      k = made.first.k;
      first = made.first.first;
      filled = made.first.filled;
      clues = puzzle.puzzle;
      only = only.0;
      verdict = only.1;
      unthinned = c.new.ensures.items;
    }

pub returns-clause-leaves : goal.returns-clause-leaves
returns-clause-leaves g c = draws_first c.in_ok-answer.ensures.first refl
