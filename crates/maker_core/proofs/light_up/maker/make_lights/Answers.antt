use Rattle.maker_core.proofs.Common.{IsLightSolution, IsThinnedFrom, ap, light_game, light_puzzle_of, light_rules, lights_of, refl, rule-from-test, subst, sym, test-from-rule, with_numbers, ◌∙◌}
use Rattle.maker_core.proofs.FirstTries.{draws_first, only_is}
use Rattle.maker_core.proofs.light_up.maker.make_lights.Goals as goal

pub returns-clause-made : goal.returns-clause-made
unfolding light_puzzle_of with_numbers lights_of
returns-clause-made g c =
    let first = c.in_ok-filling.ensures.first in
    let thinned = c.in_ok-thin.ensures in
    let p = c.in_ok-thin.field-0.puzzle in
    let given = thinned.answer in
    let full = c.in_ok-puzzle.ensures in (
      c.if-not-is_wide.ensures.0 refl,
      record {
        k = first.k;
        first = first.first;
        numbers = subst (IsThinnedFrom light_game p) (full ∙ ap (light_puzzle_of c.args.size) first.filled) thinned.within;
        filled = given ∙ ap (λ f. f.bulbs) first.filled;
        size_asked = thinned.within.frame.size ∙ ap (λ p. p.size) full;
        only = rw given (only_is (light_rules p) (IsLightSolution p) (λ h s. s.grid)
            (λ h grid. (rule-from-test p h grid, test-from-rule p h grid)) thinned.only);
        verdict = rw given thinned.found;
        reasons = rw given thinned.reasons;
      },
    )

pub returns-clause-leaves : goal.returns-clause-leaves
returns-clause-leaves g c = draws_first c.in_ok-filling.ensures.first (rw (sym c.in_ok-puzzle.ensures) c.in_ok-thin.ensures.drawn)
