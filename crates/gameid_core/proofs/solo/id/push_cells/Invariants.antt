use Rattle.gameid_core.specs.Common.{drop, false, string_bytes, ◌++◌, ◌≡◌, ◌≤◌}
use Rattle.gameid_core.specs.SoloText.{cells_text}
use Rattle.gameid_core.proofs.solo.id.push_cells.Given as goal

abbrev pub invariant-loop-given : goal.invariant-loop-given
invariant-loop-given l = record {
  few : l.blanks ≤ 26;
  so_far : string_bytes l.out ++ cells_text l.blanks l.touches (drop l.given-index l.givens) ≡ string_bytes l.fn.out ++ cells_text 0 false l.givens;
}
