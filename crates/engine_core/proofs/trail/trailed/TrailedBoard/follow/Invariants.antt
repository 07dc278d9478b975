use Rattle.engine_core.proofs.Common.{IsTrailLonger, has}
use Rattle.engine_core.proofs.TrailLemmas.{IsFollowed}
use Rattle.engine_core.proofs.trail.trailed.TrailedBoard.follow.Given as goal

abbrev pub invariant-loop-place : goal.invariant-loop-place
invariant-loop-place g l = record {
  followed : IsFollowed l.place (has l.fn.self.board) (has l.board) (has l.self.board);
  further : IsTrailLonger l.fn.self l.self;
}
