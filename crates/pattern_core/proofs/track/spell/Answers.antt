use Rattle.pattern_core.proofs.Common.{Spells, [], add-one, ap, append-nil, arith, drop_all, refl, slots_of, spelled, subst, sym, ◌++◌, ◌∙◌}
use Rattle.pattern_core.proofs.SpelledRuns.{length-spelled, next_run, run_fits, spelling_none, track_spelled}
use Rattle.pattern_core.proofs.LineWords.{on_past, on_within}
use Rattle.pattern_core.proofs.track.spell.Goals as goal

pub loop-k-init : goal.loop-k-init
unfolding spelled
loop-k-init g c = ([], refl, spelling_none _ c.none.ensures c.none-2.ensures c.first.ensures)

pub loop-k-preserved : goal.loop-k-preserved
loop-k-preserved g c =
    let (front, so_far, spells) = c.loop-k.invariant in let low = run_fits front _ _ c.loop-k-test.true so_far in
    (_, next_run front _ _ c.loop-k-test.true so_far, c.push_run-cells.ensures front (omega (arith, low, c.requires)) spells)

pub returns : goal.returns
unfolding spelled
returns g c =
    let has = slots_of g.P.Word.bits in let (front, so_far, spells) = c.loop-k.invariant in
    let all = sym (append-nil front) ∙ ap (λ l. front ++ spelled l) (sym (drop_all c.loop-k.k c.args.clue.now c.loop-k-test.false)) ∙ so_far in
    track_spelled (omega (arith, c.requires, length-spelled c.args.clue.now))
    (subst (λ l. Spells (slots_of g.P.Word.bits) l c.loop-k.cells) all spells) (on_within g.P.Word.room (has c.loop-k.cells.white) (has c.on.result) c.on.ensures)
    (on_past g.P.Word.room (has c.loop-k.cells.white) (has c.on.result) c.on.ensures) c.first-2.ensures c.either.ensures (λ p. c.back.ensures p ∙ ap (has c.loop-k.cells.next) (add-one _))
    c.either-2.ensures
