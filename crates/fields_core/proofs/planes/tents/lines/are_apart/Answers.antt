use Rattle.fields_core.proofs.Common.{and_parts, any_below-some, has_bit, ltb-true, not-false, not-true, sym, ◌-◌, ◌∙◌}
use Rattle.fields_core.proofs.TentTouching.{beside-touch}
use Rattle.fields_core.proofs.planes.tents.lines.are_apart.Goals as goal

pub returns : goal.returns
returns g c = λ e.
    let bits = g.W.Word.bits in
    let u = any_below-some (has_bit (bits c.both.result)) g.W.Word.room (sym c.is_some.ensures ∙ not-false _ e) in
    let pair = and_parts _ _ (sym (c.both.ensures u.0) ∙ u.2) in let rest = and_parts _ _ (and_parts _ _ (sym (c.on.ensures u.0) ∙ pair.1)).1 in
    let own = and_parts _ _ (sym (c.but-must.ensures u.0) ∙ pair.0) in
    let before = and_parts _ _ (sym (c.but-must.ensures (u.0 - 1)) ∙ rest.1) in
    beside-touch c.args.planes.now c.args.line c.requires.line_in (ltb-true _ _ rest.0) (c.line.ensures.within u.0 own.0)
    (sym (c.line-2.ensures.cells u.0) ∙ not-true _ own.1) (sym (c.line-2.ensures.cells (u.0 - 1)) ∙ not-true _ before.1)
