use Rattle.gameid_core.specs.Common.{join_with_byte, map, string_bytes, take, ◌++◌, ◌≡◌}
use Rattle.gameid_core.specs.PatternText.{clue_text}
use Rattle.gameid_core.proofs.pattern.id.push_clues.Given as goal

abbrev pub invariant-loop-line : goal.invariant-loop-line
invariant-loop-line l = string_bytes l.out ≡ string_bytes l.fn.out ++ join_with_byte 47 (map clue_text (take l.line l.puzzle.clues))
