use Rattle.pattern_core.proofs.Common.{map, numbers_in, take, ◌≡◌}
use Rattle.pattern_core.proofs.lines.PatternLines.new.Given as goal

abbrev pub invariant-loop-line : goal.invariant-loop-line
invariant-loop-line l = map numbers_in l.clues.items ≡ take l.line l.puzzle.clues
