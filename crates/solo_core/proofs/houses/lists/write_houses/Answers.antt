use Rattle.solo_core.proofs.Common.{arith, cases_eq, get_or-set_at, get_or-set_other, inl, inr, length-set, refl, slice_index, solo_n, ◌%◌, ◌*◌, ◌+◌, ◌/◌, ◌∙◌, ◌≡◌}
use Rattle.solo_core.proofs.ListLemmas.{cell-low, houses-more}
use Rattle.solo_core.proofs.houses.lists.write_houses.Goals as goal

pub loop-cell-preserved : goal.loop-cell-preserved
loop-cell-preserved c =
    let i = c.loop-cell.invariant in
    record {
      few = length-set _ _ _ ∙ i.few;
      first = λ j lt. elim (cases_eq j c.loop-cell.cell) [
        | inl e ↦ get_or-set_at c.loop-cell.first_block c.from-in-loop-cell-3.result j _ 0 (omega arith) (omega (arith, i.few, c.n.ensures.lawful.n_high))
            ∙ rw (e, c.from.ensures, c.from-in-loop-cell.ensures, c.from-in-loop-cell-2.ensures, c.r-in-loop-cell.ensures.value, c.r-in-loop-cell-2.ensures.value, c.n-in-loop-cell.ensures.value) refl
        | inr ne ↦ get_or-set_other c.loop-cell.first_block c.from-in-loop-cell-3.result j _ 0 (λ e. ne (omega arith)) ∙ i.first j (omega arith)
      ];
    }

pub overflow_add-all-in-loop-k : goal.overflow_add-all-in-loop-k
overflow_add-all-in-loop-k c =
    let n = c.from-n.ensures ∙ c.n.ensures.value in
    let first = c.loop-cell.invariant.first c.loop-k.k (omega arith) in
    rw (n, c.from-c.ensures ∙ c.c.ensures.value, c.from-r.ensures ∙ c.r.ensures.value)
    (omega (arith, first, cell-low c.n.ensures.lawful c.loop-h.h c.loop-k.k (rw n at c.loop-h-test.true) (rw n at c.loop-k-test.true)))

pub loop-k-preserved : goal.loop-k-preserved
loop-k-preserved c =
    let p = c.args.puzzle.now in
    let n : c.from-n.result ≡ solo_n p = c.from-n.ensures ∙ c.n.ensures.value in
    let tall = c.from-c.ensures ∙ c.c.ensures.value in
    let wide = c.from-r.ensures ∙ c.r.ensures.value in
    let first = c.loop-cell.invariant.first c.loop-k.k (omega arith) in
    record {
      long = length-set _ _ _ ∙ length-set _ _ _ ∙ c.loop-k.invariant.long;
      houses =
          rw (n, tall, wide) (houses-more p c.loop-h.h c.loop-k.k (c.loop-k.k * solo_n p + c.loop-h.h)
          (c.loop-h.h / p.c * p.c * solo_n p + c.loop-h.h % p.c * p.r + slice_index c.loop-cell.first_block c.loop-k.k)
          (rw n at c.loop-h-test.true) (rw n at c.loop-k-test.true) (c.loop-k.invariant.long ∙ c.requires) refl
          (omega (arith, first)) (rw n at c.loop-k.invariant.houses));
    }
