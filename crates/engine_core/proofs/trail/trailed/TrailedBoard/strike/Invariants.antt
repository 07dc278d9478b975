use Rattle.engine_core.proofs.Common.{IsTrailLonger, has, length, slice_index, take, ℕ, ◌<◌, ◌≤◌}
use Rattle.engine_core.specs.ClosingList.{IsAlive}
use Rattle.engine_core.proofs.TrailLemmas.{IsStruckUpto}
use Rattle.engine_core.proofs.trail.trailed.TrailedBoard.strike.Given as goal

abbrev pub invariant-loop-i : goal.invariant-loop-i
invariant-loop-i g l =
    let p = g.S.RuleSet.system (g.S.RuleSet.puzzle_of l.rules.set) in
    let rest = take l.count (g.N.Notes.numbers l.notes) in
    record {
      done : ℕ;
      within : done ≤ length (p.scope l.house);
      before : (t : ℕ) → t < l.i → t < length rest → slice_index rest t < done;
      ahead : (t : ℕ) → l.i ≤ t → t < length rest → done ≤ slice_index rest t;
      upto : IsStruckUpto p l.house done l.fn.self l.self;
      alive : IsAlive p (has l.self.board);
      further : IsTrailLonger l.fn.self l.self;
    }
