use Rattle.pattern_core.proofs.Common.{along, ap, ap₂, slots_of, ◌&&◌, ◌||◌, ◌∙◌}
use Rattle.pattern_core.proofs.LineWords.{ahead_with}
use Rattle.pattern_core.proofs.table.ahead_of.Goals as goal

pub returns : goal.returns
returns g c = λ p.
    let has = slots_of g.P.Word.bits in let steps = c.args.steps in
    c.by_cell.ensures p ∙ ap₂ (λ m n. (c.args.white && m) || (c.args.black && n))
    (c.either.ensures p ∙ ap₂ (λ m n. m || n) (c.both.ensures p) (c.both-2.ensures p ∙ ap (λ n. has steps.white p && n) (c.back-next.ensures p)))
    (c.both-3.ensures p ∙ ap (λ n. has steps.black p && n) (c.back-next.ensures p))
    ∙ ahead_with (along has steps) c.args.white c.args.black (has c.args.after) p
