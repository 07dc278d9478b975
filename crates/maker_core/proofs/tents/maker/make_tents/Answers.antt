use Rattle.maker_core.proofs.Common.{IsTentSolution, ap, refl, solution-from-tents, tent_rules, tents-from-solution, tents_puzzle_of, ◌∙◌}
use Rattle.maker_core.proofs.FirstTries.{draws_first, one_is}
use Rattle.maker_core.proofs.tents.maker.make_tents.Goals as goal

pub returns-clause-made : goal.returns-clause-made
unfolding tents_puzzle_of
returns-clause-made g c =
    let made = c.in_ok-filling.ensures in
    let puzzle = c.in_ok-puzzle.ensures in
    let p = c.in_ok-puzzle.puzzle in
    let only = one_is (tent_rules p) (IsTentSolution p) (λ h s. s.grid) (λ h grid. (solution-from-tents p h grid, tents-from-solution p h grid))
    (rw puzzle (made.known.3 refl)) (rw puzzle made.known.2) in (
      c.if-not-is_tent_size.ensures.0 refl,
      record {
        k = made.first.k;
        first = made.first.first;
        clues = puzzle ∙ ap (tents_puzzle_of c.args.size) made.first.filled;
        filled = ap (λ filling. filling.tents) made.first.filled;
        size_asked = ap (λ p. p.size) puzzle;
        only = only.0;
        verdict = only.1;
        unthinned = c.new.ensures.items;
      },
    )

pub returns-clause-leaves : goal.returns-clause-leaves
returns-clause-leaves g c = draws_first c.in_ok-filling.ensures.first refl
