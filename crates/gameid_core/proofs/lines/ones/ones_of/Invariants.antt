use Rattle.gameid_core.specs.Common.{line_numbers, ones, take, ◌≡◌, ◌≤◌}
use Rattle.gameid_core.proofs.lines.ones.ones_of.Given as goal

abbrev pub invariant-loop-k : goal.invariant-loop-k
invariant-loop-k l = record {
  few : l.count ≤ l.k;
  so_far : l.count ≡ ones (take l.k (line_numbers l.size l.grid l.line));
}
