use Rattle.solo_core.proofs.Common.{[], all_places, crossings_of, take, ◌++◌, ◌≡◌}
use Rattle.solo_core.proofs.houses.crossings.push_crossings.Given as goal

abbrev pub invariant-loop-number : goal.invariant-loop-number
invariant-loop-number l = l.list ≡ record { closed = l.fn.list.closed ++ take l.number (all_places (crossings_of l.puzzle)); begun = [] }
