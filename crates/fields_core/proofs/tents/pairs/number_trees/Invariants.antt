use Rattle.fields_core.proofs.Common.{count_below, get_or, length, tree, ℕ, ◌<◌, ◌≡◌, ◌≤◌}
use Rattle.fields_core.proofs.tents.pairs.number_trees.Given as goal

abbrev pub invariant-loop-place : goal.invariant-loop-place
invariant-loop-place l = record {
  count : l.trees ≡ count_below (tree l.puzzle) l.place;
  few : l.trees ≤ l.place;
  each : (c : ℕ) → c < l.place → get_or l.numbers c 0 ≡ count_below (tree l.puzzle) c;
  as_long : length l.numbers ≡ length l.fn.numbers;
}
