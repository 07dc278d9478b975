use Rattle.fields_core.proofs.Common.{and_parts, any_below-some, has_bit, ltb-true, not-true, sym, ◌∙◌}
use Rattle.fields_core.proofs.LightSafeCells.{must-safe, two-places, two-safe}
use Rattle.fields_core.proofs.planes.light_up.visits.is_safe.Goals as goal

pub returns-then-has_two : goal.returns-then-has_two
returns-then-has_two g c = λ _.
    let w = two-places (has_bit (g.W.Word.bits c.both-may.result)) g.W.Word.room (ltb-true _ _ (sym c.has_two.ensures ∙ c.if-has_two.true)) in
    let one = and_parts _ _ (sym (c.both-may.ensures w.0) ∙ w.4) in let other = and_parts _ _ (sym (c.both-may.ensures w.1) ∙ w.5) in
    two-safe w.0 w.1 w.2 one.0 other.0 one.1 other.1

pub returns-else-has_two : goal.returns-else-has_two
returns-else-has_two g c = λ on.
    let w = any_below-some (has_bit (g.W.Word.bits c.but.result)) g.W.Word.room (sym c.is_some.ensures ∙ on) in
    let there = and_parts _ _ (sym (c.but.ensures w.0) ∙ w.2) in let may = and_parts _ _ (sym (c.both-may.ensures w.0) ∙ there.0) in
    must-safe w.0 may.0 may.1 (not-true _ there.1)
