use Rattle.fields_core.proofs.Common.{append-nil, arith, refl, ◌≡◌}
use Rattle.fields_core.proofs.KindLemmas.{before-all, before-more, before-none, houses_before, just-none, kinds-none, listed-named, listed-one}
use Rattle.fields_core.proofs.count.names.names_of.Goals as goal
use Rattle.fields_core.proofs.count.names.names_of.Goals.{else-tells, then-tells+in_ok-push}

pub loop-number-init : goal.loop-number-init
loop-number-init g c = let p = g.P.CountGame in
    rw (c.in_ok-names.ensures.items, kinds-none (p.told c.args.puzzle.now) (p.span_of c.args.puzzle.now) p.kind_of) refl

pub loop-place-init : goal.loop-place-init
loop-place-init g c = let p = g.P.CountGame in let puzzle = c.args.puzzle.now in
    rw (before-none (p.told puzzle) (p.span_of puzzle) p.kind_of c.loop-number.number) c.loop-number.invariant

pub loop-place-preserved : goal.loop-place-preserved
loop-place-preserved g c = let p = g.P.CountGame in let puzzle = c.args.puzzle.now in
    let number = c.loop-number.number in let place = c.loop-place.place in
    let before = houses_before (p.told puzzle) (p.span_of puzzle) p.kind_of number place in
    let told = rw c.kind-kind.ensures at c.tells.ensures in
    rw (before-more (p.told puzzle) (p.span_of puzzle) p.kind_of number place) (elim c.if-tells.branch [
      | then-tells+in_ok-push w ↦
          rw w.names-is (listed-one (p.told puzzle) c.loop-place.names.items w.of.result before (p.told puzzle (p.kind_of number) place) c.loop-place.invariant w.in_ok-push.ensures.items
          (rw (w.of.ensures.kind, w.of.ensures.place, c.kind-kind.ensures) refl) (rw w.if-tells.true at told))
      | else-tells w ↦ rw (w.names-is, just-none (p.told puzzle (p.kind_of number) place) (rw w.if-tells.false at told), append-nil before) c.loop-place.invariant
    ])

pub loop-number-preserved : goal.loop-number-preserved
loop-number-preserved g c = let p = g.P.CountGame in let puzzle = c.args.puzzle.now in
    let number = c.loop-number.number in
    let all : c.loop-place.place ≡ p.span_of puzzle (p.kind_of number) = omega (arith, c.loop-place-test.false, c.loop-place.auto.place-end, rw c.kind-kind.ensures at c.span-place-end.ensures.span) in
    rw (all, before-all (p.told puzzle) (p.span_of puzzle) p.kind_of number) at c.loop-place.invariant

pub returns : goal.returns
returns g c = let p = g.P.CountGame in let puzzle = c.args.puzzle.now in
    let all : c.loop-number.number ≡ 4 = omega (arith, c.loop-number-test.false, c.loop-number.auto.number-end) in
    listed-named (p.told puzzle) c.loop-number.names.items ((p.counts puzzle).houses) (rw (g.met.P.CountGame.houses_are puzzle) (rw all at c.loop-number.invariant))
