use Rattle.engine_core.proofs.QueueLemmas.{IsBoardOf-same}
use Rattle.engine_core.proofs.trail.position.TrailPositionPositionHouseRules.undo.Goals as goal

pub returns-clause-walks : goal.returns-clause-walks
returns-clause-walks g c =
    let r = rw (← c.self.view_is) at c.requires in
    record {
      along =
          record {
            fits = r.walks.along.fits;
            board_of = IsBoardOf-same r.walks.along.board_of c.put_back.ensures.back.shape;
            noted = c.put_back.ensures.noted;
          };
      inside = rw c.put_back.ensures.back.here r.inside;
    }
