use Rattle.std.proofs.lemmas.Grind.{common_steps}
use Rattle.pattern_core.proofs.Common.{Column, Row, arith, refl, ◌+◌, ◌∙◌, ◌≡◌}
use Rattle.pattern_core.proofs.WaitingLines.{weighed-all, weighed-more}
use Rattle.pattern_core.proofs.planes.close.at_start.Goals as goal

pub loop-x-preserved : goal.loop-x-preserved
loop-x-preserved g c =
    let wide : c.w-x-end.result ≡ c.args.rules.now.pattern.size.w = rw c.size-size.ensures at c.w-x-end.ensures.value in
    weighed-more _ (Column c.loop-x.x) c.may_strike.result (omega (arith, c.loop-x-test.true, wide)) refl
    c.waiting_if-waits.ensures (λ off. rw c.from.ensures at (c.may_strike.ensures off)) c.loop-x.invariant

pub loop-y-init : goal.loop-y-init
loop-y-init g c = grind (arith, common_steps, c.size-size.ensures, c.w-x-end.ensures.value, c.loop-x-test.false, c.loop-x.auto.x-end, c.loop-x.invariant)

pub loop-y-preserved : goal.loop-y-preserved
loop-y-preserved g c =
    let size = c.args.rules.now.pattern.size in
    let high : c.h-y-end.result ≡ size.h = rw c.size-size.ensures at c.h-y-end.ensures.value in
    let wide : c.from-w.result ≡ size.w = c.from-w.ensures ∙ (rw c.size-size.ensures at c.w.ensures.value) in
    let e : size.w + (c.loop-y.y + 1) ≡ size.w + c.loop-y.y + 1 = omega arith in
    rw e (weighed-more _ (Row c.loop-y.y) c.may_strike-in-loop-y.result (omega (arith, c.loop-y-test.true, high)) refl
    c.waiting_if-waits-in-loop-y.ensures (λ off. rw (wide, c.from-in-loop-y.ensures) at (c.may_strike-in-loop-y.ensures off)) c.loop-y.invariant)

pub returns : goal.returns
returns g c =
    let high : c.h-y-end.result ≡ c.args.rules.now.pattern.size.h = rw c.size-size.ensures at c.h-y-end.ensures.value in
    weighed-all (omega (arith, c.loop-y-test.false, c.loop-y.auto.y-end, high))
    c.loop-y.invariant
