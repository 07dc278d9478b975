-- The laws that the goals of a file use, by the file's name.
use Rattle.engine_core.proofs.Common.{bound_enough, by_houses-lawful, ends-close, ends-more, last-le, length-pieces, length-set, piece-at, piece-ends, sets-bits, shown_from_test, test_from_shown, total-bound}
use Rattle.engine_core.proofs.ClosingLemmas.{closure_inside, closure_closed, closure_largest}
use Rattle.engine_core.proofs.MarkLemmas.{joined-first, joined-more, lowest_left, mark-first, mark-more, marked-first, marked-more, marks-at, next-marked, none_left, waiting-dequeue, waiting-enqueue}
use Rattle.engine_core.proofs.HouseLemmas.{closed-in, kept-first, kept-inside, kept-more, last-at, listed-close, listed-more, scopes-fit, striking-first, striking-more, table-houses, total-closed}
use Rattle.engine_core.proofs.JudgeLemmas.{grid-fits, grid-long, pick-ends, pick-is, pick-more, pick-passes, settled-dead}
use Rattle.engine_core.proofs.SearchLemmas.{found_iff, outcome-counts, outcome-true, spent-counts, trials-counted, tried-first}
use Rattle.engine_core.proofs.WalkLemmas.{walk-once, walk-unfold}
use Rattle.engine_core.proofs.PlaneSteps.{step-onward, step-walks}
use Rattle.engine_core.proofs.TrailLemmas.{trail-none}
use Rattle.grid_core.proofs.TakingLemmas.{put_back-none}

pub ruleset house_index_laws = (mark-first, mark-more, marked-first, marked-more, marks-at, next-marked, joined-first, joined-more, length-set)

pub ruleset house_rules_laws = (scopes-fit, table-houses)

pub ruleset house_list_laws =
    (last-le, closed-in, ends-close, listed-close, length-pieces, total-closed, ends-more, listed-more, piece-at, piece-ends, last-at)

pub ruleset laws_laws = (
  by_houses-lawful,
  bound_enough,
  closure_inside,
  closure_closed,
  closure_largest,
  outcome-true,
  shown_from_test,
  test_from_shown,
  pick-is,
  walk-once,
  found_iff,
  outcome-counts,
  spent-counts,
  tried-first,
  trials-counted,
  walk-unfold,
)

pub ruleset wait_laws = (waiting-enqueue, waiting-dequeue, none_left, lowest_left)

pub ruleset visit_laws = (kept-first, kept-inside, kept-more, striking-first, striking-more, sets-bits)

pub ruleset trail_laws = (trail-none, total-bound, put_back-none)

pub ruleset cell_laws = (grid-fits, grid-long, pick-more, pick-passes, pick-ends)

pub ruleset plane_position_laws = (step-onward, step-walks)

pub ruleset position_laws = (grid-fits, grid-long)

pub ruleset store_laws = (settled-dead)
