use Rattle.maker_core.proofs.Common.{filter, has_clue, range_with_len, ◌≡◌}
use Rattle.maker_core.proofs.thinning.thin.clue_list.Given as goal

abbrev pub invariant-loop-place : goal.invariant-loop-place
invariant-loop-place g l = l.places.items ≡ filter (has_clue g.P.Clued.game l.puzzle) (range_with_len 0 l.place)
