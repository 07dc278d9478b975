use Rattle.grid_core.proofs.Common.{arith, div-lt_iff_lt-mul, layers_of, length-map, ◌%◌, ◌*◌, ◌/◌, ◌<◌, ◌∙◌}
use Rattle.grid_core.proofs.PlaneSteps.{word_read, has_read}
use Rattle.grid_core.proofs.planes.Planes.has.Goals as goal

pub returns : goal.returns
returns g c =
    let p = c.self.inside in
    let bits = g.W.Word.bits in
    let r = rw (← c.self.view_is) at c.requires in
    let i = c.self.invariant in
    let row = rw (← c.self.view_is) at c.split-y.ensures.row in
    let column = rw (← c.self.view_is) at c.split-y.ensures.column in
    let place_in : c.args.place < p.size.h * p.size.w = omega (arith, r.place_in) in
    let y_in : c.args.place / p.size.w < p.size.h = (div-lt_iff_lt-mul i.lawful.w_low).1 place_in in
    let read = word_read bits p.rows.items (c.args.place / p.size.w) c.args.value c.index.result.now
    (omega (arith, y_in, r.value_in, i.tall, length-map p.rows.items bits))
    (rw (c.from.ensures, row) at c.index.ensures) (c.args.place % p.size.w) in
    rw (← c.self.view_is)
    (rw column at c.has.ensures ∙ read ∙ has_read (layers_of bits p.size p.rows.items p.columns.items p.changes.items p.len) c.args.place c.args.value r.value_in)
