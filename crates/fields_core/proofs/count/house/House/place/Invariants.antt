use Rattle.fields_core.proofs.Common.{drop, length, places_in_segments, slice_index, ◌<◌, ◌≡◌}
use Rattle.fields_core.proofs.count.house.House.place.Given as goal

abbrev pub invariant-loop-number : goal.invariant-loop-number
invariant-loop-number l = record {
  within : l.left < length (places_in_segments (drop l.number l.self.cells));
  same : slice_index (places_in_segments (drop l.number l.self.cells)) l.left ≡ slice_index (places_in_segments l.self.cells) l.k;
}
