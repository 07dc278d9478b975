use Rattle.gameid_core.specs.Common.{drop, length, ◌+◌, ◌≡◌, ◌≤◌}
use Rattle.gameid_core.specs.LightText.{light_cells_at}
use Rattle.gameid_core.proofs.LightTexts.{lights}
use Rattle.gameid_core.proofs.light_up.id.cells.Given as goal

abbrev pub invariant-loop-k : goal.invariant-loop-k
invariant-loop-k l = record {
  room : length l.cells.items ≤ l.all;
  so_far : lights l.all (l.base + l.k) l.cells.items (drop l.k l.description) ≡ light_cells_at l.all l.base l.description;
}
