use Rattle.fields_core.proofs.Common.{[], arith, false, get_or-replicate, get_or-set_other, get_or-set_same, length-set, light_cells, line_white, lit_house, or-false, refl, replicate, rules, sym, true, white, ℕ, ◌*◌, ◌+◌, ◌<◌, ◌∙◌, ◌≡◌}
use Rattle.fields_core.proofs.MeasureLemmas.{adds-none, counted-all, counted-more, counted-none, white-content, white-unnumbered}
use Rattle.fields_core.proofs.RunLemmas.{column-black, column-here, column-house-is, columns-more, columns-none, columns-row, latest-black, latest-none, latest-white, lit-lines, lit-long, row-black, row-house-is}
use Rattle.fields_core.proofs.light_up.houses.measure_lights.Goals as goal

pub loop-y-init : goal.loop-y-init
loop-y-init c =
    let p = c.args.puzzle.now in let z : 0 * p.size.w ≡ 0 = omega arith in
    record {
      counted = rw z (counted-none p c.none-measured.ensures.counted c.none-measured.ensures.unmet);
      columns = columns-none p (replicate 120 (0, 0)) (λ x lt. get_or-replicate 120 x (0, 0) (0, 0) (omega (arith, lt, c.columns-w.ensures.lawful.size.extent)));
      wide = search rules;
    }

pub loop-x-init : goal.loop-x-init
loop-x-init c =
    let p = c.args.puzzle.now in let i = c.loop-y.invariant in
    let z : c.loop-y.y * p.size.w + 0 ≡ c.loop-y.y * p.size.w = omega arith in
    record { counted = rw z i.counted; row = latest-none (line_white p (c.loop-y.y * p.size.w) 1) p.size.w; columns = i.columns; wide = i.wide }

pub loop-y-preserved : goal.loop-y-preserved
loop-y-preserved c =
    let p = c.args.puzzle.now in let i = c.loop-x.invariant in
    let wide = c.columns-w.ensures.value in let x : c.loop-x.x ≡ p.size.w = omega arith in
    let z : (c.loop-y.y + 1) * p.size.w ≡ c.loop-y.y * p.size.w + c.loop-x.x = omega arith in
    record { counted = rw z i.counted; columns = columns-row p c.loop-x.columns c.loop-y.y (rw x at i.columns); wide = i.wide }

pub loop-x-preserved-then-not-is_white : goal.loop-x-preserved-then-not-is_white
loop-x-preserved-then-not-is_white c =
    let p = c.args.puzzle.now in let l = c.loop-x in
    let i = l.invariant in let y = c.loop-y.y in let place = y * p.size.w + l.x in
    let wide = c.columns-w.ensures.value in let number = c.add_number.ensures in let counted = c.add_number.new.measured in
    let off : white p place ≡ false = rw wide at (sym c.is_white.ensures.value ∙ c.if-not-is_white.true) in
    let low : l.x < p.size.w = rw wide at c.loop-x-test.true in
    let z : y * p.size.w + (l.x + 1) ≡ place + 1 = omega arith in
    let none : lit_house p place ≡ [] = rw off refl in
    record {
      counted = rw z (counted-more i.counted number.added (adds-none counted (row-black p place off)) (adds-none counted (column-black p place off)) (adds-none counted none)
          number.unmet (omega (arith, number.few)));
      row = latest-black l.row (let z : y * p.size.w + l.x * 1 ≡ place = omega arith in rw z off) i.row;
      columns = columns-more p l.columns l.columns y l.x i.columns (λ column other. refl)
          (latest-black _ (let z : l.x + y * p.size.w ≡ place = omega arith in rw z off) (column-here p l.columns y l.x i.columns low));
      wide = i.wide;
    }

pub add_run-top-requires-clause-latest : goal.add_run-top-requires-clause-latest
add_run-top-requires-clause-latest c =
    let column = c.column-column.ensures in
    rw (column.puzzle, column.first, column.stride, column.len)
    (column-here c.args.puzzle.now c.loop-x.columns c.loop-y.y c.loop-x.x c.loop-x.invariant.columns (rw c.columns-w.ensures.value at c.loop-x-test.true))

pub loop-x-preserved : goal.loop-x-preserved
loop-x-preserved c =
    let p = c.args.puzzle.now in let l = c.loop-x in
    let i = l.invariant in let y = c.loop-y.y in let place = y * p.size.w + l.x in
    let wide = c.columns-w.ensures.value in
    let low : l.x < p.size.w = rw wide at c.loop-x-test.true in let run : ℕ × ℕ = (c.add_run-top.result.0, c.add_run-top.result.1) in
    let on : white p place ≡ true = rw wide at (sym c.is_white.ensures.value ∙ c.if-not-is_white.false) in
    let a = c.row-line.ensures in let b = c.column-column.ensures in
    let row = rw (a.puzzle, a.first, a.stride, a.len) at c.add_run-row.ensures.run in
    let column = rw (b.puzzle, b.first, b.stride, b.len) at c.add_run-top.ensures.run in
    let z : y * p.size.w + (l.x + 1) ≡ place + 1 = omega arith in
    record {
      counted = rw z (counted-more i.counted (adds-none l.measured (white-unnumbered p place on))
          (rw (a.puzzle, a.first, a.stride, a.len, row-house-is p y low) at c.add_run-row.ensures.added)
          (rw (b.puzzle, b.first, b.stride, b.len, column-house-is p y low) at c.add_run-top.ensures.added)
          (rw (lit-lines p low on row column) (c.add.ensures.added _ (lit-long p l.x c.add_run-row.result.0 c.add_run-row.result.1 column)))
          (rw (white-content p place on) (c.add.ensures.unmet ∙ c.add_run-top.ensures.unmet ∙ c.add_run-row.ensures.unmet ∙ sym (or-false l.measured.unmet)))
          (omega (arith, c.add.ensures.one, c.add_run-top.ensures.few, c.add_run-row.ensures.few)));
      row = latest-white c.add_run-row.result row;
      columns = columns-more p l.columns _ y l.x i.columns (λ other ne. get_or-set_other l.columns l.x other run (0, 0) ne)
          (rw (get_or-set_same l.columns l.x run (0, 0) (omega (arith, low, i.wide))) (latest-white run column));
      wide = omega (arith, i.wide, length-set l.columns l.x run);
    }

pub returns-clause-measured : goal.returns-clause-measured
returns-clause-measured c =
    let p = c.args.puzzle.now in
    let all : c.loop-y.y ≡ p.size.h = omega arith in let whole : p.size.h * p.size.w ≡ light_cells p = omega arith in
    counted-all c.loop-y.invariant.counted (rw all whole)
