use Rattle.fields_core.proofs.Common.{IsCount, and_parts, arith, count_below, has_bit, length, pieces_of, refl, subst, sym, ◌+◌, ◌∙◌, ◌≡◌}
use Rattle.grid_core.proofs.RegionLemmas.{few_cells}
use Rattle.fields_core.proofs.PartLemmas.{counted-first, counted-next, counted-small, line_in}
use Rattle.fields_core.proofs.planes.visit.count.Goals as goal
use Rattle.fields_core.proofs.planes.visit.count.Goals.{After-both-open}

pub loop-number-init : goal.loop-number-init
loop-number-init g c = counted-first

pub line-requires-clause-line_in : goal.line-requires-clause-line_in
line-requires-clause-line_in g c =
    line_in c.requires
    (rw c.len-number-end.ensures at c.loop-number-test.true) (sym c.part-part.ensures)

pub line-requires-in-loop-number-clause-line_in : goal.line-requires-in-loop-number-clause-line_in
line-requires-in-loop-number-clause-line_in g c =
    line_in c.requires
    (rw c.len-number-end.ensures at c.loop-number-test.true) (sym c.part-part.ensures)

next : (g : _) (c : After-both-open g) → IsCount c.args.planes.now (pieces_of g.W.Word.bits c.args.parts.now) (c.loop-number.number + 1)
    (c.loop-number.may + count_below (has_bit (g.W.Word.bits c.both-ones.result)) g.W.Word.room)
    (c.loop-number.undecided + count_below (has_bit (g.W.Word.bits c.both-open.result)) g.W.Word.room)
next g c =
    let bits = g.W.Word.bits in
    counted-next (bits c.both-ones.result)
    (bits c.both-open.result) (bits c.line-in-loop-number.result) (sym c.part-part.ensures) c.requires
    (rw c.len-number-end.ensures at c.loop-number-test.true) c.line.ensures.fits
    (λ k. c.both-ones.ensures k ∙ rw (c.line.ensures.cells k) refl) c.both-open.ensures c.line-in-loop-number.ensures.cells
    (λ k on. c.line.ensures.within k (and_parts _ _ (sym (c.both-ones.ensures k) ∙ on)).0) c.loop-number.invariant

pub overflow_add-may : goal.overflow_add-may
overflow_add-may g c =
    let small = counted-small (next g (goal.at.overflow_add-may g c).After-both-open) in
    omega (arith, small.0, few_cells c.args.planes.now.size c.line.ensures.lawful.lawful, c.count-may.ensures)

pub overflow_add-undecided : goal.overflow_add-undecided
overflow_add-undecided g c =
    let small = counted-small (next g (goal.at.overflow_add-undecided g c).After-both-open) in
    omega (arith, small.1, few_cells c.args.planes.now.size c.line.ensures.lawful.lawful, c.count-undecided.ensures)

pub loop-number-preserved : goal.loop-number-preserved
loop-number-preserved g c = rw (c.count-may.ensures, c.count-undecided.ensures) (next g (goal.at.loop-number-preserved g c).After-both-open)

pub returns : goal.returns
returns g c =
    let last : c.loop-number.number ≡ length (pieces_of g.W.Word.bits c.args.parts.now) =
    (let e = c.loop-number-test.false in let b = c.loop-number.auto.number-end in
    omega (arith, e, b, c.len-number-end.ensures)) in
    subst (λ n. IsCount c.args.planes.now (pieces_of g.W.Word.bits c.args.parts.now) n c.loop-number.may c.loop-number.undecided) last c.loop-number.invariant
