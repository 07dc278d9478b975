use Rattle.gameid_core.specs.Common.{drop, string_bytes, ◌++◌, ◌≡◌}
use Rattle.gameid_core.proofs.TentsWritten.{counts_text}
use Rattle.gameid_core.proofs.tents.id.push_counts.Given as goal

abbrev pub invariant-loop-count : goal.invariant-loop-count
invariant-loop-count l = string_bytes l.out ++ counts_text (drop l.count-index l.counts) ≡ string_bytes l.fn.out ++ counts_text l.counts
