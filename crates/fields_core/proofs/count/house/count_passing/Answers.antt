use Rattle.fields_core.proofs.Common.{arith, ltb-true, mul-le-mul_right, ◌*◌, ◌+◌, ◌-◌, ◌∙◌, ◌≡◌, ◌≤◌}
use Rattle.fields_core.proofs.HouseLemmas.{beside-count}
use Rattle.fields_core.proofs.count.house.count_passing.Goals as goal

pub returns-clause-count : goal.returns-clause-count
returns-clause-count g c = λ test tests.
    let w = c.args.size.w in let h = c.args.size.h in
    let x = c.args.x in let y = c.args.y in
    let wide : c.from-w.result ≡ c.args.size.w = c.from-w.ensures ∙ c.w.ensures.value in
    let high : c.from-h.result ≡ c.args.size.h = c.from-h.ensures ∙ c.h.ensures.value in
    let rows : (y + 1) * w ≤ h * w = mul-le-mul_right w (omega (arith, c.requires.y_in)) in
    let above : c.saturating_sub.result ≡ y * w + x - w = rw wide at c.saturating_sub.ensures in
    let before : c.saturating_sub-2.result ≡ y * w + x - 1 = rw wide at c.saturating_sub-2.ensures in
    let up = c.count_if-up.ensures.count test (λ there answer. tests _ answer (omega (arith, above, rows, c.requires.x_in))) in
    let left = c.count_if-left.ensures.count test (λ there answer. tests _ answer (omega (arith, before, rows, c.requires.x_in))) in
    let right = c.count_if-right.ensures.count test (λ there answer. tests _ answer
    (rw wide (omega (arith, rows, c.requires.y_in, ltb-true _ _ (rw wide at there))))) in
    let down = c.count_if-down.ensures.count test (λ there answer. tests _ answer
    (let more : (y + 2) * w ≤ h * w = mul-le-mul_right w (omega (arith, high, ltb-true _ _ there)) in rw wide (omega (arith, more, c.requires.x_in)))) in
    omega (arith, beside-count test c.args.size x y c.requires.x_in, rw above at up, rw before at left, rw wide at right, rw (wide, high) at down)
