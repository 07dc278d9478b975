use Rattle.grid_core.proofs.Common.{and_parts, arith, common_steps, eqb, eqb-true, false_from_ne_true, has_bit, length-set, not, refl, sym, ℕ, ◌&&◌, ◌∙◌, ◌≡◌}
use Rattle.grid_core.proofs.BoardLemmas.{any_below-none}
use Rattle.grid_core.proofs.WordLemmas.{turned_at, crossed, fewer_left, turned_none, turned_all}
use Rattle.grid_core.proofs.planes.turn.turn.Goals as goal

pub loop-own-init : goal.loop-own-init
loop-own-init g c = grind (arith, turned_none, g.W.Word.bits)

pub loop-own-smaller : goal.loop-own-smaller
loop-own-smaller g c =
    fewer_left (has_bit (g.W.Word.bits c.loop-own.rest)) (has_bit (g.W.Word.bits c.without_lowest-rest.result)) g.W.Word.room c.lowest-crossing.result
    c.lowest-crossing.ensures.within c.lowest-crossing.ensures.has (λ p. c.without_lowest-rest.ensures c.lowest-crossing.result p c.lowest-crossing.ensures)

pub loop-own-preserved : goal.loop-own-preserved
loop-own-preserved g c =
    let bits = g.W.Word.bits in
    let i = c.loop-own.invariant in
    let rest = λ (k : ℕ). has_bit (bits c.loop-own.rest) k in
    let left : (k : ℕ) → has_bit (bits c.without_lowest-rest.result)
    k ≡ (rest k && not (eqb k c.lowest-crossing.result)) =
    λ k. c.without_lowest-rest.ensures c.lowest-crossing.result k c.lowest-crossing.ensures in
    let in_bits = i.inside c.lowest-crossing.result c.lowest-crossing.ensures.has in
    let within = (c.requires.bits_in c.lowest-crossing.result in_bits).1 in
    record {
      inside = λ k on. i.inside k (and_parts _ _ (sym (left k) ∙ on)).0;
      across = λ k u j lt. crossed _ _ _ (eqb j c.args.line) (eqb u c.args.value) (eqb k c.lowest-crossing.result) (has_bit (bits c.args.bits) k) (rest k) _
          (i.across k u j lt)
          (turned_at bits c.loop-own.across.items c.lowest-crossing.result c.args.value
          c.index-crossed.result.now c.differ-in-loop-own.result (λ p. eqb p c.args.line)
          c.requires.value_in
          (omega (arith, within, i.wide)) c.index-crossed.ensures (λ p. c.differ-in-loop-own.ensures p ∙ rw (c.one-own.ensures p) refl) k u j lt)
          (left k) (λ e. rw (eqb-true _ _ e) c.lowest-crossing.ensures.has) (i.inside k);
      wide = length-set _ _ _ ∙ i.wide;
    }

pub returns-clause-along : goal.returns-clause-along
returns-clause-along g c = λ j u k lt.
    turned_at g.W.Word.bits c.args.along.now.items c.args.line c.args.value c.index-word.result.now
    c.differ.result (has_bit (g.W.Word.bits c.args.bits)) c.requires.value_in c.requires.line_in
    c.index-word.ensures c.differ.ensures j u k lt

pub returns-clause-across : goal.returns-clause-across
returns-clause-across g c = λ k u j lt.
    let i = c.loop-own.invariant in
    let none = sym c.is_some.ensures ∙ c.loop-own-test.false in
    i.across k u j lt ∙ turned_all _ _ _ (has_bit (g.W.Word.bits c.args.bits) k) (has_bit (g.W.Word.bits c.loop-own.rest) k) (false_from_ne_true _ (λ on.
    let room = (c.requires.bits_in k (i.inside k on)).0 in grind (arith, common_steps, any_below-none _ _ none k room)))
