use Rattle.grid_core.proofs.Common.{ap, arith, bool_byte, ◌<◌, ◌∙◌, ◌≡◌}
use Rattle.grid_core.proofs.PlaneSteps.{written-more, written-all}
use Rattle.grid_core.proofs.planes.Planes.write_grid.Goals as goal

pub loop-x-preserved : goal.loop-x-preserved
loop-x-preserved g c =
    let p = c.args.self.now in
    let w_is : c.from-w.result ≡ p.size.w = rw (c.w.ensures.value, c.size-size.ensures.value) at c.from-w.ensures in
    let ly : c.loop-y.y < p.size.h = rw (c.size-size.ensures.value) at (rw (c.h-y-end.ensures.value) at c.loop-y-test.true) in
    let value = c.from-in-loop-x.ensures ∙ ap bool_byte (c.has.ensures ∙ c.row-ones.ensures.cells c.loop-x.x) in
    rw (c.set.ensures, c.from.ensures, w_is)
    (written-more p c.loop-x.grid c.loop-y.y c.loop-x.x c.from-in-loop-x.result c.requires.full ly (rw w_is at c.loop-x-test.true) c.loop-x.invariant value)

pub returns : goal.returns
returns g c =
    grind (arith, written-all, c.size-size.ensures.value, c.h-y-end.ensures.value, c.loop-y.auto.y-end, c.loop-y-test.false, c.requires.full, c.loop-y.invariant)
