use Rattle.pattern_core.proofs.Common.{along, and-false, and-true, ap, ap₂, arith, led, length, sets_by, set_with, slots_of, sym, ◌&&◌, ◌<◌, ◌||◌, ◌∙◌}
use Rattle.pattern_core.proofs.LineWords.{led_with, length-sets, sets-at}
use Rattle.pattern_core.proofs.SettledLines.{settled-kept}
use Rattle.pattern_core.proofs.TableSteps.{reached_first, reached_next}
use Rattle.pattern_core.proofs.planes.filter.Cells.keep_settled.Goals as goal

pub loop-at-init : goal.loop-at-init
loop-at-init g c = reached_first _ c.requires.below.first c.first-reached.ensures

pub loop-at-preserved : goal.loop-at-preserved
loop-at-preserved g c =
    let has = slots_of g.P.Word.bits in let bits = g.W.Word.bits in let t = along has c.args.steps in
    let white = bits c.args.self.white in let black = bits c.args.self.black in
    let sets = sets_by white black c.args.count in let at = c.loop-at.at in
    let lt : at < length sets = omega (arith, c.loop-at-test.true, length-sets white black c.args.count) in
    reached_next g.P.Word.room t sets (has c.loop-at.reached) (has c.by_cell-reached.result) at c.requires.below lt
    (λ p low. c.by_cell-reached.ensures p ∙ ap₂ (λ m n. (c.has.result && m) || (c.has-in-loop-at.result && n)) (c.ways_of.ensures.white p low) (c.ways_of.ensures.black p low)
    ∙ led_with t c.has.result c.has-in-loop-at.result (has c.loop-at.reached) p
    ∙ ap (λ s. led t s (has c.loop-at.reached) p) (ap₂ set_with c.has.ensures c.has-in-loop-at.ensures ∙ sym (sets-at white black c.args.count at c.loop-at-test.true))) c.loop-at.invariant

pub returns-then-is_some : goal.returns-then-is_some
returns-then-is_some g c =
    settled-kept _ _ c.args.count _ _ c.loop-at.invariant (omega (arith, c.loop-at-test.false)) c.both.ensures (sym c.if-is_some.true ∙ c.is_some.ensures) c.requires.settled
    (λ k. sym (and-true _)) (λ k. sym (and-true _))

pub returns : goal.returns
returns g c =
    settled-kept _ _ c.args.count _ _ c.loop-at.invariant (omega (arith, c.loop-at-test.false)) c.both.ensures (sym c.if-is_some.false ∙ c.is_some.ensures) c.requires.settled
    (λ k. c.none.ensures k ∙ sym (and-false _)) (λ k. c.none-2.ensures k ∙ sym (and-false _))
