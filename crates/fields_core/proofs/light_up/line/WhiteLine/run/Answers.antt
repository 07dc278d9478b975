use Rattle.fields_core.proofs.Common.{IsNext, arith, common_steps, line_white, not, ◌-◌}
use Rattle.fields_core.proofs.LightSeen.{around-from, back-few, run-back}
use Rattle.fields_core.proofs.light_up.line.WhiteLine.run.Goals as goal
use Rattle.fields_core.proofs.light_up.line.WhiteLine.run.Goals.{After-next_passing}

-- the next black cell before it
black : (c : After-next_passing) → let s = c.args.self.now in
    IsNext (λ back. not (line_white s.puzzle.now s.first s.stride (c.args.at - back - 1))) c.args.at 0 c.next_passing.result
black c =
    let s = c.args.self.now in
    c.next_passing.ensures (λ back. not (line_white s.puzzle.now s.first s.stride (c.args.at - back - 1))) (λ d answer lt met. grind (arith, common_steps))

pub overflow_sub-result : goal.overflow_sub-result
overflow_sub-result c = let s = c.args.self.now in
    rw c.unwrap_or-before.ensures (back-few (line_white s.puzzle.now s.first s.stride) c.args.at _ (black (goal.at.overflow_sub-result c).After-next_passing))

pub returns : goal.returns
returns c =
    let s = c.args.self.now in
    let back = run-back (line_white s.puzzle.now s.first s.stride) c.args.at _ (black (goal.at.returns c).After-next_passing) in
    around-from (rw c.unwrap_or-before.ensures back) c.run_end.ensures c.requires.white
