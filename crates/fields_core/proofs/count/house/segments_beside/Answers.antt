use Rattle.fields_core.proofs.Common.{[], ap, ap₂, arith, get_or-set_other, length-set, map, range_with_len, refl, rules, segment_places, steps, sym, ℕ, ◌*◌, ◌++◌, ◌+◌, ◌∙◌, ◌∷◌, ◌≡◌}
use Rattle.fields_core.proofs.HouseLemmas.{each-empty, places-set, step-keep, step-none, step-skip}
use Rattle.fields_core.proofs.count.house.segments_beside.Goals as goal
use Rattle.fields_core.proofs.count.house.segments_beside.Goals.{in-Some+then-passes, in-Some+else-passes, in_default}

pub loop-direction-init : goal.loop-direction-init
unfolding steps
loop-direction-init g c =
    let none = c.alone-cells.ensures ∙ c.none.ensures in
    record { found = λ test tests. none; rest = λ k d from lt. each-empty c.alone-cells.result none k d lt; four = search rules }

one-cell : (place : ℕ) → map (λ k. place + k * 0) (range_with_len 0 1) ≡ place ∷ []
one-cell place = let z : place + 0 * 0 ≡ place = omega arith in rw z refl

pub loop-direction-preserved : goal.loop-direction-preserved
loop-direction-preserved g c =
    let i = c.loop-direction.invariant in let n = c.loop-direction.direction in
    let cells = c.loop-direction.cells in let low = c.loop-direction-test.true in
    let size = c.args.size in
    elim c.match-step.branch [
      | in-Some+then-passes w ↦
          let there = sym w.in-Some.is ∙ c.step.ensures.cell in
          rw w.cells-is (record {
            found = λ test tests.
                places-set cells n w.of.result w.of.result (omega (arith, i.four)) (λ k from lt. i.rest k w.of.result from lt)
                ∙ ap₂ (λ s t. s ++ t) (i.found test tests) (w.of.ensures ∙ one-cell w.in-Some.other)
                ∙ step-keep test size c.args.place n w.in-Some.other there
                (sym w.if-passes.true ∙ tests w.in-Some.other w.passes.result w.in-Some.ensures.within w.passes.ensures);
            rest = λ k d from lt.
                ap segment_places (get_or-set_other cells n k w.of.result d (λ e. absurd (omega (arith, e, from))))
                ∙ i.rest k d (omega arith) (omega (arith, lt, length-set cells n w.of.result));
            four = omega (arith, i.four, length-set cells n w.of.result);
          })
      | in-Some+else-passes w ↦
          let there = sym w.in-Some.is ∙ c.step.ensures.cell in
          rw w.cells-is (record {
            found = λ test tests. i.found test tests ∙ step-skip test size c.args.place n w.in-Some.other there
                (sym w.if-passes.false ∙ tests w.in-Some.other w.passes.result w.in-Some.ensures.within w.passes.ensures);
            rest = λ k d from lt. i.rest k d (omega arith) lt;
            four = i.four;
          })
      | in_default w ↦ rw w.cells-is (record {
        found = λ test tests. i.found test tests ∙ step-none test size c.args.place n (sym w.in_default.is ∙ c.step.ensures.cell);
        rest = λ k d from lt. i.rest k d (omega arith) lt;
        four = i.four;
      })
    ]
