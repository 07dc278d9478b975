use Rattle.solo_core.proofs.Common.{Block, has_place, not, places_of}
use Rattle.solo_core.proofs.CrossingLemmas.{IsRest}
use Rattle.solo_core.proofs.houses.crossings.push_rest.Given as goal

abbrev pub invariant-loop-k : goal.invariant-loop-k
invariant-loop-k l = IsRest (λ c. not (has_place (places_of l.puzzle (Block l.block)) c)) l.fn.list (places_of l.puzzle l.line) l.k l.list
