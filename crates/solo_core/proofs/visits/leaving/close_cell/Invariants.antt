use Rattle.solo_core.proofs.Common.{length, ◌≡◌}
use Rattle.solo_core.specs.OpenBoards.{StayOpenWith}
use Rattle.solo_core.proofs.visits.leaving.close_cell.Given as goal

abbrev pub invariant-loop-i : goal.invariant-loop-i
invariant-loop-i l = record {
  as_many : length l.houses ≡ length l.fn.houses;
  stay : StayOpenWith l.spots l.set l.fn.houses l.houses;
}
