use Rattle.pattern_core.proofs.Common.{along, ap, ap₂, goes_on, or-false, can_stay, sym, ◌&&◌, ◌||◌, ◌∙◌, slots_of}
use Rattle.pattern_core.proofs.LineWords.{led_words, on_within}
use Rattle.pattern_core.proofs.table.ways_of.Goals as goal

pub returns-clause-white : goal.returns-clause-white
unfolding can_stay goes_on
returns-clause-white g c = λ p lt. c.either.ensures p ∙ ap₂ (λ m n. m || n) (c.both-2.ensures p) (on_within g.P.Word.room (slots_of g.P.Word.bits c.both.result) (slots_of g.P.Word.bits c.on-next.result) c.on-next.ensures p lt)
    ∙ led_words (along (slots_of g.P.Word.bits) c.args.steps) 1 _ _ p
    (λ q. c.both.ensures q ∙ ap (λ w. w && slots_of g.P.Word.bits c.args.reached q) (sym (or-false _)))

pub returns-clause-black : goal.returns-clause-black
unfolding can_stay goes_on
returns-clause-black g c = λ p lt. on_within g.P.Word.room (slots_of g.P.Word.bits c.both-3.result) (slots_of g.P.Word.bits c.on.result) c.on.ensures p lt
    ∙ led_words (along (slots_of g.P.Word.bits) c.args.steps) 2 _ _ p c.both-3.ensures
