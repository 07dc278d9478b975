use Rattle.engine_core.proofs.Common.{AreGrids, AreReady, AreSolutions, length, ◌≡◌}
use Rattle.engine_core.proofs.search.levels.Levels.finds_two.Given as goal

abbrev pub invariant-loop-left : goal.invariant-loop-left
invariant-loop-left g l =
    let p = g.R.Rules.system l.rules in
    let st = g.P.Position.stands l.position in
    record {
      ready : AreReady p st l.self;
      solved : AreSolutions p l.self.grids;
      long : AreGrids p.cells l.self.grids;
      walks : g.P.Position.walks l.rules l.position;
      frames : length l.self.frames.items ≡ length l.fn.self.frames.items;
      room : g.P.Position.room l.position ≡ g.P.Position.room l.fn.position;
    }

abbrev pub decreases-loop-left : goal.decreases-loop-left
decreases-loop-left g l = l.left
