use Rattle.fields_core.proofs.Common.{ap, arith, length, length-append, ◌<◌, ◌∙◌, ◌≡◌}
use Rattle.fields_core.proofs.KindLemmas.{before-all, before-at, before-more, before-none, houses_before, just-one, kinds-none}
use Rattle.fields_core.proofs.count.names.name_of.Goals as goal
use Rattle.fields_core.proofs.count.names.name_of.Goals.{else-tells, then-tells+else-left-eq0}

pub loop-number-init : goal.loop-number-init
loop-number-init g c = let p = g.P.CountGame in
    omega (arith, ap length (kinds-none (p.told c.args.puzzle.now) (p.span_of c.args.puzzle.now) p.kind_of))

pub loop-place-init : goal.loop-place-init
loop-place-init g c = let p = g.P.CountGame in let puzzle = c.args.puzzle.now in
    omega (arith, c.loop-number.invariant, ap length (before-none (p.told puzzle) (p.span_of puzzle) p.kind_of c.loop-number.number))

pub returns-then-left-eq0 : goal.returns-then-left-eq0
returns-then-left-eq0 g c = let p = g.P.CountGame in let puzzle = c.args.puzzle.now in
    let kind = c.kind-kind.ensures in let number = c.loop-number.number in
    let one : length (p.told puzzle (p.kind_of number) c.loop-place.place) ≡ 1 = rw (kind, c.if-tells.true) at c.tells.ensures in
    let here : c.args.house ≡ length (houses_before (p.told puzzle) (p.span_of puzzle) p.kind_of number c.loop-place.place) = omega (arith, c.loop-place.invariant, c.if-left-eq0.true) in
    let lt : c.loop-place.place < p.span_of puzzle (p.kind_of number) = omega (arith, c.loop-place-test.true, rw kind at c.span-place-end.ensures.span) in
    let is = before-at (p.told puzzle) (p.span_of puzzle) p.kind_of (g.met.P.CountGame.houses_are puzzle) c.loop-number-test.true lt
    (just-one (p.told puzzle (p.kind_of number) c.loop-place.place) one) in
    rw (c.of.ensures.kind, c.of.ensures.place, kind, here, is) (just-one (p.told puzzle (p.kind_of number) c.loop-place.place) one)

pub loop-place-preserved : goal.loop-place-preserved
loop-place-preserved g c = let p = g.P.CountGame in let puzzle = c.args.puzzle.now in
    let number = c.loop-number.number in let place = c.loop-place.place in
    let more = ap length (before-more (p.told puzzle) (p.span_of puzzle) p.kind_of number place)
    ∙ length-append (houses_before (p.told puzzle) (p.span_of puzzle) p.kind_of number place) (p.told puzzle (p.kind_of number) place) in
    let told = rw c.kind-kind.ensures at c.tells.ensures in
    elim c.if-tells.branch [
      | then-tells+else-left-eq0 w ↦ omega (arith, w.left-is, w.if-left-eq0.false, c.loop-place.invariant, more, rw w.if-tells.true at told)
      | else-tells w ↦ omega (arith, w.left-is, c.loop-place.invariant, more, rw w.if-tells.false at told)
    ]

pub loop-number-preserved : goal.loop-number-preserved
loop-number-preserved g c = let p = g.P.CountGame in let puzzle = c.args.puzzle.now in
    let number = c.loop-number.number in
    let all : c.loop-place.place ≡ p.span_of puzzle (p.kind_of number) = omega (arith, c.loop-place-test.false, c.loop-place.auto.place-end, rw c.kind-kind.ensures at c.span-place-end.ensures.span) in
    omega (arith, rw all at c.loop-place.invariant, ap length (before-all (p.told puzzle) (p.span_of puzzle) p.kind_of number))
