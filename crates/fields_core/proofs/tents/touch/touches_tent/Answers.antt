use Rattle.fields_core.proofs.Common.{ap, arith, cases_Bool, inl, inr, sym, true≢false, ◌*◌, ◌-◌, ◌∙◌, ◌≡◌}
use Rattle.fields_core.proofs.TentLines.{some-wide, touched, untouched, touch-beside, touch-above, touch-below}
use Rattle.fields_core.proofs.tents.touch.touches_tent.Goals.{then-has_tent_among, else-has_tent_among}
use Rattle.fields_core.proofs.tents.touch.touches_tent.Goals as goal

pub returns-then-has_tent_among-2 : goal.returns-then-has_tent_among-2
returns-then-has_tent_among-2 c =
    let size = c.args.size in let a = c.args.place in
    let n = size.w * size.h in let pos = some-wide size c.requires.place_in in
    let window = c.window-first.ensures.window in let within = c.window-first.ensures.within in
    let w_is : c.from-w.result ≡ size.w = c.from-w.ensures ∙ c.w.ensures.value in
    elim c.if-has_tent_among.branch [
      | then-has_tent_among w ↦ w.value-is ∙ touched size pos window n c.has_tent_among.ensures w.if-has_tent_among.true within (touch-beside size pos window)
      | else-has_tent_among w ↦
          let first = w.saturating_sub.ensures ∙ ap (λ n. c.window-first.result.0 - n) w_is in
          let end = w.saturating_sub-else-has_tent_among.ensures ∙ ap (λ n. c.window-first.result.1 - n) w_is in
          w.value-is ∙ touched size pos window n w.has_tent_among-else-has_tent_among.ensures (sym w.value-is ∙ c.if-has_tent_among-2.true) (omega arith)
          (λ d p q _. touch-above size pos window d (omega arith) (omega arith))
    ]

pub returns-else-has_tent_among-2 : goal.returns-else-has_tent_among-2
returns-else-has_tent_among-2 c =
    let size = c.args.size in let a = c.args.place in
    let n = size.w * size.h in let pos = some-wide size c.requires.place_in in
    let window = c.window-first.ensures.window in let w_is : c.from-w.result ≡ size.w = c.from-w.ensures ∙ c.w.ensures.value in
    let found = c.has_tent_among-else-has_tent_among-2.result in
    let below = rw w_is at c.has_tent_among-else-has_tent_among-2.ensures in let last = c.min-last.ensures in
    elim c.if-has_tent_among.branch [
      | then-has_tent_among w ↦ absurd (true≢false (sym w.if-has_tent_among.true ∙ sym w.value-is ∙ c.if-has_tent_among-2.false))
      | else-has_tent_among w ↦
          let first = w.saturating_sub.ensures ∙ ap (λ n. c.window-first.result.0 - n) w_is in
          let end = w.saturating_sub-else-has_tent_among.ensures ∙ ap (λ n. c.window-first.result.1 - n) w_is in
          let beside = rw w.if-has_tent_among.false at c.has_tent_among.ensures in
          let above = rw (sym w.value-is ∙ c.if-has_tent_among-2.false) at w.has_tent_among-else-has_tent_among.ensures in
          elim (cases_Bool found) [
            | inl on ↦ touched size pos window n below on (omega arith) (λ d p q _. touch-below size pos window p (omega arith))
            | inr off ↦ untouched size pos window n beside above below first end (omega arith) off
          ]
    ]
