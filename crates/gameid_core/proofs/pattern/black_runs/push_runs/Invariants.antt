use Rattle.gameid_core.specs.Common.{drop, line_numbers, runs, runs_after, ◌++◌, ◌≡◌, ◌≤◌}
use Rattle.gameid_core.proofs.pattern.black_runs.push_runs.Given as goal

abbrev pub invariant-loop-k : goal.invariant-loop-k
invariant-loop-k l = record {
  few : l.count ≤ l.k;
  whole : l.clues.clues ≡ l.fn.clues.clues;
  so_far : l.clues.clue ++ runs_after l.count (drop l.k (line_numbers l.size l.grid l.line)) ≡ l.fn.clues.clue ++ runs (line_numbers l.size l.grid l.line);
}
