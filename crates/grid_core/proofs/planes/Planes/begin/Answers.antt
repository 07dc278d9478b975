use Rattle.grid_core.proofs.Common.{all_of, arith, layers_of, length, length-map, sym, taking_of, ◌*◌, ◌∙◌, ◌≡◌}
use Rattle.grid_core.proofs.PlaneSteps.{ArePlanesBegun, begun, none-beyond}
use Rattle.grid_core.proofs.planes.Planes.begin.Goals as goal
use Rattle.grid_core.proofs.planes.Planes.begin.Goals.{After-write_lines-2}

filled : (g : _) (c : After-write_lines-2 g)
    → ArePlanesBegun g.W.Word.room c.args.size (all_of (c.args.size.w * c.args.size.h) 2)
    (layers_of g.W.Word.bits c.args.size c.write_lines.new.words.items c.write_lines-2.new.words.items c.self.inside.changes.items 0)
filled g c =
    let p = c.self.inside in
    let bits = g.W.Word.bits in
    let i = c.self.invariant in
    let r = rw (← c.self.view_is) at c.requires in
    let places : length p.rows.items ≡ 2 * g.W.Word.room = sym (length-map p.rows.items bits) ∙ i.tall in
    let places' : length p.columns.items ≡ 2 * g.W.Word.room = sym (length-map p.columns.items bits) ∙ i.wide in
    begun bits g.W.Word.room c.args.size c.all.result c.all-2.result p.changes.items c.w.ensures.lawful r.narrow r.low
    (rw (c.from-w.ensures, c.w.ensures.value) at c.all.ensures) (rw (c.from-h.ensures, c.h.ensures.value) at c.all-2.ensures)
    (omega (arith, length-map p.changes.items (taking_of bits), r.few)) _ _
    (record { is = rw (c.from-h.ensures, c.h.ensures.value) at c.write_lines.ensures.written; long = c.write_lines.ensures.long ∙ places })
    (record { is = rw (c.from-w.ensures, c.w.ensures.value) at c.write_lines-2.ensures.written; long = c.write_lines-2.ensures.long ∙ places' })

pub invariant_of-self : goal.invariant_of-self
invariant_of-self g c = (filled g (goal.at.invariant_of-self g c).After-write_lines-2).are

pub returns-clause-fresh : goal.returns-clause-fresh
returns-clause-fresh g c = (filled g (goal.at.returns-clause-fresh g c).After-write_lines-2).fresh

pub write_lines-requires-clause-others : goal.write_lines-requires-clause-others
write_lines-requires-clause-others g c =
    rw (c.from.ensures, c.h-2.ensures.value) (none-beyond _ _ (λ line place v lt on. (c.self.invariant.words.within line place v lt on).0))

pub write_lines-requires-2-clause-others : goal.write_lines-requires-2-clause-others
write_lines-requires-2-clause-others g c =
    rw (c.from-2.ensures, c.w-2.ensures.value) (none-beyond _ _ (λ line place v lt on. (c.self.invariant.words.within place line v lt (c.self.invariant.words.agree place line v lt ∙ on)).1))
