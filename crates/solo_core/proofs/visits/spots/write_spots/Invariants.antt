use Rattle.solo_core.proofs.Common.{length, ℕ, ◌%◌, ◌/◌, ◌<◌, ◌≡◌}
use Rattle.solo_core.specs.OpenBoards.{spot_at, spot_of}
use Rattle.solo_core.proofs.visits.spots.write_spots.Given as goal

abbrev pub invariant-loop-at : goal.invariant-loop-at
invariant-loop-at l = record {
  as_many : length l.spots ≡ length l.fn.spots;
  are : (j : ℕ) → j < l.at → spot_at l.spots j ≡ spot_of l.c l.r (j / l.each) (j % l.each);
}
