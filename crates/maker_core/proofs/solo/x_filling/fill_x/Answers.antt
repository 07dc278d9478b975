use Rattle.maker_core.proofs.Common.{IfOk-weaker, ap, ◌*◌, ◌∙◌, ◌≡◌}
use Rattle.maker_core.proofs.SoloXSearch.{first_is, found_solves, x-filling-is, x-filling-solves}
use Rattle.maker_core.proofs.solo.x_filling.fill_x.Given as given
use Rattle.maker_core.proofs.solo.x_filling.fill_x.Goals as goal
use Rattle.maker_core.proofs.solo.x_filling.fill_x.Goals.{After-from-2}

side : (g : given.Over) (c : After-from-2 g) → c.from.result * c.from-2.result ≡ c.args.c * c.args.r
side g c = ap (λ i. i * c.from-2.result) c.from.ensures ∙ ap (λ i. c.args.c * i) c.from-2.ensures

pub returns-clause-filling : goal.returns-clause-filling
returns-clause-filling g c =
    let n = side g (goal.at.returns-clause-filling g c).After-from-2 in
    let top = c.in_ok-puzzle.ensures in
    IfOk-weaker c.flip_by_draw.result _ _ (λ filling flipped.
    x-filling-is c.args.budget _ n (rw n top.drawn) top.given c.in_ok-rules.ensures.rules
    (c.first.ensures ∙ first_is _ _ _ c.solve.ensures.verdict) flipped)
    c.flip_by_draw.ensures

pub returns-clause-solution : goal.returns-clause-solution
returns-clause-solution g c =
    let n = side g (goal.at.returns-clause-solution g c).After-from-2 in
    let top = c.in_ok-puzzle.ensures in
    IfOk-weaker c.flip_by_draw.result _ _ (λ filling flipped.
    x-filling-solves _ _ filling c.requires top.ordered n top.given c.in_ok-rules.ensures.rules
    (found_solves _ _ _ _ c.first.ensures c.solve.ensures.verdict c.solve.ensures.sound) flipped)
    c.flip_by_draw.ensures
