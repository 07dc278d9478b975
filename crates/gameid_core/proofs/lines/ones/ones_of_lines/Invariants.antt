use Rattle.gameid_core.specs.Common.{ones, ◌≡◌}
use Rattle.gameid_core.proofs.LineLaws.{lines_front}
use Rattle.gameid_core.proofs.lines.ones.ones_of_lines.Given as goal

abbrev pub invariant-loop-line : goal.invariant-loop-line
invariant-loop-line l = l.counts.items ≡ lines_front ones l.size l.grid l.line
