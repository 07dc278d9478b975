use Rattle.solo_core.proofs.Common.{length, ◌≡◌}
use Rattle.grid_core.specs.Board.{has}
use Rattle.solo_core.specs.OpenBoards.{AreNotesOf}
use Rattle.solo_core.proofs.visits.notes.note_board.Given as goal

abbrev pub invariant-loop-place : goal.invariant-loop-place
invariant-loop-place l = record {
  as_many : length l.houses ≡ length l.fn.houses;
  notes : AreNotesOf l.puzzle (has l.board) l.houses l.spots;
}
