use Rattle.std.proofs.lemmas.Grind.{common_steps}
use Rattle.std.proofs.Common.{arith}
use Rattle.maker_core.proofs.Common.{ap, sym, ◌*◌, ◌∙◌, ◌≡◌}
use Rattle.maker_core.proofs.solo.x_filling.shuffled_puzzle.Given as given
use Rattle.maker_core.proofs.solo.x_filling.shuffled_puzzle.Goals as goal
use Rattle.maker_core.proofs.solo.x_filling.shuffled_puzzle.Goals.{After-from-2}

side : (g : given.Over) (c : After-from-2 g) → c.from.result * c.from-2.result ≡ c.args.c * c.args.r
side g c = ap (λ i. i * c.from-2.result) c.from.ensures ∙ ap (λ i. c.args.c * i) c.from-2.ensures

pub top_row_puzzle-requires-clause-numbers : goal.top_row_puzzle-requires-clause-numbers
top_row_puzzle-requires-clause-numbers g c =
    rw (c.deref.ensures.value, sym (side g (goal.at.top_row_puzzle-requires-clause-numbers g c).After-from-2)) c.in_ok-numbers.ensures.ordered

pub returns : goal.returns
returns g c = grind (arith, common_steps, side, c.in_ok-numbers.ensures.ordered, c.in_ok-numbers.ensures.drawn, c.deref.ensures.value, c.top_row_puzzle.ensures)
