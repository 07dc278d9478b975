use Rattle.pattern_core.proofs.Common.{along, ap, arith, leads, led, length-line_numbers, line_numbers, set_for, ◌∙◌, slots_of}
use Rattle.pattern_core.proofs.TableSteps.{at_first, meet_end, meet_next}
use Rattle.pattern_core.proofs.meets.meets.Goals as goal

pub loop-k-init : goal.loop-k-init
loop-k-init g c =
    at_first _ (λ p. leads (along (slots_of g.P.Word.bits) c.steps-steps.result) p _)
    c.steps-steps.ensures.below.first c.first-reached.ensures

pub loop-k-preserved : goal.loop-k-preserved
loop-k-preserved g c =
    let has = slots_of g.P.Word.bits in let t = along (slots_of g.P.Word.bits) c.steps-steps.result in
    let cells = line_numbers c.args.size c.args.grid.now c.args.line in
    let long = length-line_numbers c.args.size c.args.grid.now c.args.line in let number = c.line_value.ensures in
    meet_next c.steps-steps.ensures.below cells c.loop-k.k (has c.loop-k.reached) (has c.led_on-reached.result)
    (omega (arith, long, c.line_len-k-end.ensures.cells, c.loop-k-test.true))
    (λ p lt. c.led_on-reached.ensures p lt ∙ ap (λ n. led t (set_for n) (has c.loop-k.reached) p) number)
    c.loop-k.invariant

pub returns : goal.returns
returns g c =
    let t = along (slots_of g.P.Word.bits) c.steps-steps.result in
    let cells = line_numbers c.args.size c.args.grid.now c.args.line in
    let long = length-line_numbers c.args.size c.args.grid.now c.args.line in
    c.is_some.ensures ∙ meet_end c.steps-steps.ensures.below cells c.loop-k.k (slots_of g.P.Word.bits c.loop-k.reached) c.args.clue.now
    (slots_of g.P.Word.bits c.both.result) c.steps-steps.ensures.track c.steps-steps.ensures.positive
    (omega (arith, long, c.line_len-k-end.ensures.cells, c.loop-k-test.false, c.loop-k.auto.k-end)) c.both.ensures c.loop-k.invariant
