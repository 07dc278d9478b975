use Rattle.fields_core.proofs.Common.{ArePlanes, Extent, ap, arith, ◌∙◌, ◌≡◌}
use Rattle.fields_core.proofs.TentTreeWords.{near-ones, row-ones}
use Rattle.fields_core.proofs.planes.tents.three_rows.ones_near.Goals as goal
use Rattle.fields_core.proofs.planes.tents.three_rows.ones_near.Goals.{then-y-gt0, else-y-gt0, then-y-h, else-y-h}

pub returns-clause-ones : goal.returns-clause-ones
returns-clause-ones g c =
    let p = c.args.planes.now in let bits = g.W.Word.bits in
    let h_is : c.h.result ≡ p.size.h = c.h.ensures.value ∙ ap (λ (s : Extent). s.h) c.size.ensures.value in
    near-ones bits p _
    (λ pos. elim c.if-y-gt0.branch [
      | then-y-gt0 w ↦ rw w.result-is (row-ones p _ _ w.row.ensures.cells w.row.ensures.within)
      | else-y-gt0 w ↦ absurd (omega (arith, pos, w.if-y-gt0.false))
    ])
    (λ none x. elim c.if-y-gt0.branch [
      | then-y-gt0 w ↦ absurd (omega (arith, none, w.if-y-gt0.true))
      | else-y-gt0 w ↦ rw w.result-is (c.none-none.ensures x)
    ])
    (row-ones p _ _ c.row-2.ensures.cells c.row-2.ensures.within)
    (λ low. elim c.if-y-h.branch [
      | then-y-h w ↦ rw w.result-is (row-ones p _ _ w.row-then-y-h.ensures.cells w.row-then-y-h.ensures.within)
      | else-y-h w ↦ absurd (omega (arith, low, h_is, w.if-y-h.false))
    ])
    (λ past x. elim c.if-y-h.branch [
      | then-y-h w ↦ absurd (omega (arith, past, h_is, w.if-y-h.true))
      | else-y-h w ↦ rw w.result-is (c.none-none.ensures x)
    ])

pub returns-clause-narrow : goal.returns-clause-narrow
returns-clause-narrow g c = let are : ArePlanes g.W.Word.room c.args.planes.now = c.size.ensures.lawful in are.narrow
