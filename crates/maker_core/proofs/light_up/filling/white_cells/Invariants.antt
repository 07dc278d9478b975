use Rattle.maker_core.proofs.Common.{filter, range_with_len, white, ◌≡◌}
use Rattle.maker_core.proofs.light_up.filling.white_cells.Given as goal

abbrev pub invariant-loop-place : goal.invariant-loop-place
invariant-loop-place l = l.places.items ≡ filter (white l.fn.puzzle) (range_with_len 0 l.place)
