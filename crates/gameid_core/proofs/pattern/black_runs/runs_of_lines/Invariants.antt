use Rattle.gameid_core.specs.Common.{[], runs, ◌≡◌}
use Rattle.gameid_core.proofs.LineLaws.{lines_front}
use Rattle.gameid_core.proofs.pattern.black_runs.runs_of_lines.Given as goal

abbrev pub invariant-loop-line : goal.invariant-loop-line
invariant-loop-line l = l.clues ≡ record { clues = lines_front runs l.size l.grid l.line; clue = [] }
