use Rattle.fields_core.proofs.Common.{arith, common_steps, line_white, not}
use Rattle.fields_core.proofs.LightSeen.{run-on}
use Rattle.fields_core.proofs.light_up.line.WhiteLine.run_end.Goals as goal

pub returns : goal.returns
returns c =
    let s = c.args.self.now in let white = line_white s.puzzle.now s.first s.stride in
    rw c.unwrap_or.ensures (run-on white s.len c.args.at _ c.requires (c.next_passing.ensures (λ i. not (white i)) (λ d answer lt met. grind (arith, common_steps))))
