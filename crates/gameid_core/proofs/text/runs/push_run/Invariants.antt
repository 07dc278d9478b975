use Rattle.gameid_core.specs.Common.{replicate, ◌++◌, ◌≡◌}
use Rattle.gameid_core.proofs.text.runs.push_run.Given as goal

abbrev pub invariant-loop : goal.invariant-loop
invariant-loop g l = l.cells.items ≡ l.fn.cells.items ++ replicate l.counter l.cell
