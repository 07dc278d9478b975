use Rattle.fields_core.proofs.Common.{count_below, tree, ◌+◌, ◌≡◌, ◌≤◌}
use Rattle.fields_core.proofs.tents.houses.measure_tents.Given as goal

abbrev pub invariant-loop-place : goal.invariant-loop-place
invariant-loop-place l = record {
  counted : l.houses ≡ l.initial.houses + count_below (tree l.puzzle) l.place;
  few : l.houses ≤ l.initial.houses + l.place;
}
