use Rattle.gameid_core.specs.Common.{drop, string_bytes, ◌++◌, ◌≡◌, ◌≤◌}
use Rattle.gameid_core.specs.TentsText.{trees_text}
use Rattle.gameid_core.proofs.tents.id.push_trees.Given as goal

abbrev pub invariant-loop-tree : goal.invariant-loop-tree
invariant-loop-tree l = record {
  few : l.blanks ≤ 25;
  so_far : string_bytes l.out ++ trees_text l.blanks (drop l.tree-index l.trees) ≡ string_bytes l.fn.out ++ trees_text 0 l.trees;
}
