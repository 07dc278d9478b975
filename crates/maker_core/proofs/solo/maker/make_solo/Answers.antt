use Rattle.std.proofs.lemmas.Grind.{common_steps}
use Rattle.std.proofs.Common.{arith}
use Rattle.maker_core.proofs.Common.{IsThinnedFrom, Some, all_given, ap, refl, solo_game, stream_after_clues, sym, ◌∙◌}
use Rattle.maker_core.proofs.FirstTries.{draws_first, leaves_failed}
use Rattle.maker_core.proofs.SoloSolution.{all_given-only, all_given-found, thinned-solo, only_by_rules}
use Rattle.maker_core.proofs.solo.maker.make_solo.Goals as goal

pub thin-requires-clause-only : goal.thin-requires-clause-only
thin-requires-clause-only g c =
    let solution = rw c.in-Some.is at c.in_ok-answer.ensures.known.1 in
    rw c.in_ok-puzzle.ensures (all_given-only c.args.c c.args.r c.args.x c.in-Some.answer (c.if-not-is_size.ensures.0 refl) solution)

pub thin-requires-clause-found : goal.thin-requires-clause-found
thin-requires-clause-found g c =
    let solution = rw c.in-Some.is at c.in_ok-answer.ensures.known.1 in
    rw c.in_ok-puzzle.ensures (all_given-found c.args.c c.args.r c.args.x c.in-Some.answer (c.if-not-is_size.ensures.0 refl) solution c.args.limits.budget)

pub returns-clause-made : goal.returns-clause-made
returns-clause-made g c =
    let a = c.args in
    let first = rw c.in-Some.is at c.in_ok-answer.ensures.first in
    let solution = rw c.in-Some.is at c.in_ok-answer.ensures.known.1 in
    let thinned = c.in_ok-thin.ensures in
    let p = c.in_ok-thin.field-0.puzzle in
    let given = thinned.answer in
    let within : IsThinnedFrom solo_game p (all_given a.c a.r a.x c.in-Some.answer) = rw c.in_ok-puzzle.ensures at thinned.within in
    let frame = within.frame in (
      c.if-not-is_size.ensures.0 refl,
      record {
        k = first.k;
        first = first.first;
        filled = sym first.filled ∙ ap Some (sym given);
        columns = frame.c;
        rows = frame.r;
        diagonals = frame.x;
        givens = rw given within;
        only = rw given (only_by_rules p c.in-Some.answer
            (thinned-solo a.c a.r a.x p c.in-Some.answer (c.if-not-is_size.ensures.0 refl) solution within) thinned.only);
        verdict = rw given thinned.found;
        reasons = rw (given, sym frame.c, sym frame.r, sym frame.x) thinned.reasons;
      },
    )

pub returns-clause-leaves : goal.returns-clause-leaves
returns-clause-leaves g c =
    draws_first (rw c.in-Some.is at c.in_ok-answer.ensures.first)
    (c.in_ok-thin.ensures.drawn ∙ ap (λ q. stream_after_clues solo_game q (g.G.Rng.stream c.first_passing.new.rng)) c.in_ok-puzzle.ensures)

pub returns-in_err-answer-clause-leaves : goal.returns-in_err-answer-clause-leaves
returns-in_err-answer-clause-leaves g c = grind (arith, common_steps, leaves_failed, c.in_err-answer.ensures)
