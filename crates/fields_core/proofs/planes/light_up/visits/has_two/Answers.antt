use Rattle.fields_core.proofs.Common.{any_below-none, arith, count_below-none, has_bit, le-ltb, sym, ◌∙◌}
use Rattle.fields_core.proofs.LightSafeCells.{two-left}
use Rattle.fields_core.proofs.planes.light_up.visits.has_two.Goals as goal

pub returns-then-is_some : goal.returns-then-is_some
returns-then-is_some g c =
    c.is_some-then-is_some.ensures
    ∙ two-left (has_bit (g.W.Word.bits c.args.word)) (has_bit (g.W.Word.bits c.without_lowest.result)) g.W.Word.room
    (sym c.is_some.ensures ∙ c.if-is_some.true) c.without_lowest.ensures

pub returns-else-is_some : goal.returns-else-is_some
returns-else-is_some g c =
    let passes = has_bit (g.W.Word.bits c.args.word) in let room = g.W.Word.room in
    let none = any_below-none passes room (sym c.is_some.ensures ∙ c.if-is_some.false) in
    c.if-is_some.false ∙ sym (le-ltb 1 _ (omega (arith, count_below-none passes room none)))
