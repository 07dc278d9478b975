use Rattle.fields_core.proofs.Common.{arith, bulb, common_steps, line_white, not, ℕ, ◌&&◌, ◌*◌, ◌+◌, ◌==◌}
use Rattle.fields_core.proofs.LightSeen.{shines-along}
use Rattle.fields_core.proofs.light_up.sight.sees_along.Goals as goal

pub returns : goal.returns
returns c =
    let line = c.args.line.now in let shines = λ (i : ℕ). bulb c.args.grid.now (line.first + i * line.stride) in
    rw c.is_some.ensures (shines-along (line_white line.puzzle.now line.first line.stride) shines c.next_passing.result c.run-start.ensures
    (c.next_passing.ensures (λ i. not (i == c.args.at) && shines i) (λ d answer lt met. grind (arith, common_steps))))
