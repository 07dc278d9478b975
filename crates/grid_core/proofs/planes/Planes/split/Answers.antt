use Rattle.grid_core.proofs.Common.{arith, div-lt_iff_lt-mul, mod-lt, ◌*◌, ◌<◌}
use Rattle.grid_core.proofs.planes.Planes.split.Goals as goal

pub returns-clause-row_in : goal.returns-clause-row_in
returns-clause-row_in g c = rw (← c.self.view_is) (λ lt.
    let inside : c.args.place < c.self.inside.size.h * c.self.inside.size.w = omega (arith, lt) in
    rw (c.from-w.ensures, c.w.ensures.value) ((div-lt_iff_lt-mul c.self.invariant.lawful.w_low).1 inside))

pub returns-clause-column_in : goal.returns-clause-column_in
returns-clause-column_in g c =
    rw (← c.self.view_is) (rw (c.from-w.ensures, c.w.ensures.value) (mod-lt c.args.place c.self.invariant.lawful.w_low))

pub returns-clause-lawful : goal.returns-clause-lawful
returns-clause-lawful g c = rw (← c.self.view_is) c.self.invariant
