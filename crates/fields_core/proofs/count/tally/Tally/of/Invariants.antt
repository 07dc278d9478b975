use Rattle.fields_core.proofs.Common.{drop, house_told, places_in_segments, segment_places, ◌++◌, ◌+◌}
use Rattle.grid_core.specs.Board.{has, cells_of}
use Rattle.fields_core.proofs.HouseLemmas.{IsTallyBefore}
use Rattle.fields_core.proofs.count.tally.Tally.of.Given as goal

abbrev pub invariant-loop-number : goal.invariant-loop-number
invariant-loop-number l =
    IsTallyBefore (has l.board) (cells_of l.board) (house_told l.house) (places_in_segments (drop l.number l.house.cells)) (record { must = l.must; may = l.may; empty = l.empty })

abbrev pub invariant-loop-k : goal.invariant-loop-k
invariant-loop-k l = IsTallyBefore (has l.board) (cells_of l.board) (house_told l.house)
    (drop l.k (segment_places l.segment) ++ places_in_segments (drop (l.number + 1) l.house.cells))
    (record { must = l.must; may = l.may; empty = l.empty })
