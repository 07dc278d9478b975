use Rattle.solo_core.proofs.Common.{places_of, take, ◌++◌, ◌≡◌}
use Rattle.solo_core.proofs.houses.lists.push_house.Given as goal

abbrev pub invariant-loop-k : goal.invariant-loop-k
invariant-loop-k l = l.list ≡ record { closed = l.fn.list.closed; begun = l.fn.list.begun ++ take l.k (places_of l.puzzle l.house) }
