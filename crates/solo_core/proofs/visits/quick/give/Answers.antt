use Rattle.solo_core.proofs.Common.{ap, arith, both-bits, has_bit, length, length-set, slice_index, slice_set, sym, ℕ, [], ◌++◌, ◌∷◌, ◌∙◌, ◌≡◌}
use Rattle.arrayvec.proofs.ArrayVecLemmas.{items-with_items}
use Rattle.solo_core.proofs.MateLemmas.{pushed_free, pushed_swapped}
use Rattle.solo_core.proofs.visits.quick.give.Goals as goal

pub returns-in-Some-clause-on : goal.returns-in-Some-clause-on
returns-in-Some-clause-on c =
    let at = c.in-Some.ensures in
    pushed_free c.args.graph.now.values c.args.graph.now.sets.now c.args.graph.now.rest.now c.args.i c.args.mates.now.items c.requires.as_many c.requires.begun
    c.push.ensures.items (c.requires.below _ (grind (arith, both-bits, at.2))) (grind (arith, both-bits, at.2)) (grind (arith, both-bits, at.2))

pub returns-in-Some-first_bit-clause-on : goal.returns-in-Some-first_bit-clause-on
returns-in-Some-first_bit-clause-on c =
    let sets = c.args.graph.now.sets.now in
    let at = c.in-Some-first_bit.ensures in
    let old = c.args.mates.now.items in
    let j = c.loop-j.j in
    let v = c.in-Some-first_bit.value in
    let same = ap (λ m. m.items) c.loop-j.invariant in
    let mate : ℕ = slice_index c.deref.result.now j in
    let lent = c.deref_mut.ensures.value in
    let written = slice_set c.deref_mut.result.now j v in
    let long : length written ≡ length c.loop-j.mates.items = length-set c.deref_mut.result.now j v ∙ ap length lent in
    pushed_swapped c.args.graph.now.values sets c.args.graph.now.rest.now c.args.i j old {mate = mate} c.requires.as_many c.requires.begun
    (omega arith)
    (ap (λ xs. slice_index xs j) (c.deref.ensures.0 ∙ same))
    (c.push-in-Some-first_bit.ensures.items ∙ ap (λ xs. xs ++ mate ∷ []) (items-with_items c.loop-j.mates written long ∙ ap (λ xs. slice_set xs j v) (lent ∙ same)))
    (c.requires.below _ (grind (arith, both-bits, at.2))) (grind (arith, both-bits, at.2)) (grind (arith, both-bits, at.2))
    (ap (λ (at : ℕ). has_bit (slice_index sets at) mate) (sym c.from.ensures) ∙ sym c.has_bit.ensures ∙ c.if-not-has_bit.false)
