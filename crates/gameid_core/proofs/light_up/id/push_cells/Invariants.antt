use Rattle.gameid_core.specs.Common.{drop, string_bytes, ◌++◌, ◌≡◌, ◌≤◌}
use Rattle.gameid_core.specs.LightText.{light_cells_text}
use Rattle.gameid_core.proofs.light_up.id.push_cells.Given as goal

abbrev pub invariant-loop-cell : goal.invariant-loop-cell
invariant-loop-cell l = record {
  few : l.whites ≤ 26;
  so_far : string_bytes l.out ++ light_cells_text l.whites (drop l.cell-index l.cells) ≡ string_bytes l.fn.out ++ light_cells_text 0 l.cells;
}
