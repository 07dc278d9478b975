use Rattle.gameid_core.specs.Common.{decimal, join_with_byte, map, string_bytes, take, ◌++◌, ◌≡◌}
use Rattle.gameid_core.proofs.pattern.id.push_clue.Given as goal

abbrev pub invariant-loop-k : goal.invariant-loop-k
invariant-loop-k l = string_bytes l.out ≡ string_bytes l.fn.out ++ join_with_byte 46 (map decimal (take l.k l.clue))
