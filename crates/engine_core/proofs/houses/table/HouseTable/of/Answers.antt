use Rattle.std.proofs.Common.{mul-le-mul_right}
use Rattle.engine_core.proofs.Common.{ap, arith, get_or-replicate, length, refl, slice_index, words_of, ◌*◌, ◌+◌, ◌/◌, ◌∙◌, ◌≡◌}
use Rattle.engine_core.proofs.MarkLemmas.{marked-first}
use Rattle.engine_core.proofs.houses.table.HouseTable.of.Goals as goal

pub loop-house-init : goal.loop-house-init
loop-house-init c = marked-first c.args.list.closed
    (rw c.len.ensures.len at (c.deref_mut-all.ensures.len ∙ c.in_ok-marks.ensures.len)) (λ w lw.
    let all = c.deref_mut-all.ensures.value ∙ c.in_ok-marks.ensures.items in
    ap (λ xs. slice_index xs w) all ∙ get_or-replicate (c.args.cells * (c.len.result / 64 + 1)) w 0 0 (omega (arith, c.deref_mut-all.ensures.len, c.in_ok-marks.ensures.len)))

pub mark_house-requires-clause-within : goal.mark_house-requires-clause-within
mark_house-requires-clause-within c = λ k lt.
    let words : c.len.result / 64 + 1 ≡ words_of (length c.args.list.closed) = rw c.len.ensures.len refl in
    let at = (c.requires.scopes c.loop-house.house (omega (arith, c.len-house-end.ensures.len))).within k (rw c.places.ensures at lt) in
    let fits = mul-le-mul_right (words_of (length c.args.list.closed)) at in
    rw (words, c.places.ensures, c.loop-house.invariant.as_many) (omega arith)
