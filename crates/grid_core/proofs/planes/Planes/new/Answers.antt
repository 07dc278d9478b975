use Rattle.grid_core.proofs.Common.{all_of, ap, arith, layers_of, length, length-replicate, ◌*◌, ◌∙◌}
use Rattle.grid_core.proofs.PlaneSteps.{ArePlanesBegun, begun, none-anywhere}
use Rattle.grid_core.proofs.planes.Planes.new.Goals as goal
use Rattle.grid_core.proofs.planes.Planes.new.Goals.{In_ok-copies}

filled : (g : _) (c : In_ok-copies g)
    → ArePlanesBegun g.W.Word.room c.args.size (all_of (c.args.size.w * c.args.size.h) 2)
    (layers_of g.W.Word.bits c.args.size c.write_lines.new.words.items c.write_lines-2.new.words.items c.in_ok-copies.field-0.items 0)
filled g c =
    begun g.W.Word.bits g.W.Word.room c.args.size c.all.result c.all-2.result c.in_ok-copies.field-0.items c.w.ensures.lawful c.requires.narrow c.requires.low
    (rw (c.from-w.ensures, c.w.ensures.value) at c.all.ensures) (rw (c.from-h.ensures, c.h.ensures.value) at c.all-2.ensures)
    (let long = ap length c.in_ok-copies.ensures.items ∙ length-replicate _ _ in omega (arith, long, c.cells.ensures.value)) _ _
    (record {
      is = rw (c.from-h.ensures, c.h.ensures.value) at c.write_lines.ensures.written;
      long = c.write_lines.ensures.long ∙ ap length c.in_ok-rows.ensures.items ∙ length-replicate _ _ ∙ ap (λ n. 2 * n) c.places.ensures.value;
    })
    (record {
      is = rw (c.from-w.ensures, c.w.ensures.value) at c.write_lines-2.ensures.written;
      long = c.write_lines-2.ensures.long ∙ ap length c.in_ok-columns.ensures.items ∙ length-replicate _ _ ∙ ap (λ n. 2 * n) c.places-2.ensures.value;
    })

pub invariant_of-result : goal.invariant_of-result
invariant_of-result g c = rw (c.rows-2.view_is) (filled g (goal.at.invariant_of-result g c).In_ok-copies).are

pub returns-clause-fresh : goal.returns-clause-fresh
returns-clause-fresh g c = rw (c.rows-2.view_is) (filled g (goal.at.returns-clause-fresh g c).In_ok-copies).fresh

pub write_lines-requires-clause-others : goal.write_lines-requires-clause-others
write_lines-requires-clause-others g c = λ k place _. none-anywhere g.W.Word.bits _ _ _ c.none.ensures c.in_ok-rows.ensures.items k place

pub write_lines-requires-2-clause-others : goal.write_lines-requires-2-clause-others
write_lines-requires-2-clause-others g c = λ k place _. none-anywhere g.W.Word.bits _ _ _ c.none-2.ensures c.in_ok-columns.ensures.items k place
