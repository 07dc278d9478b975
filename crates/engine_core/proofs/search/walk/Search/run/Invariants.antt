use Rattle.engine_core.proofs.Common.{AreGrids, AreReady, length, ◌*◌, ◌+◌, ◌-◌, ◌≡◌, ◌≤◌}
use Rattle.engine_core.proofs.SearchLemmas.{IsSearching}
use Rattle.engine_core.proofs.search.walk.Search.run.Given as goal

abbrev pub invariant-loop-self : goal.invariant-loop-self
invariant-loop-self g l =
    let p = g.R.Rules.system l.rules in
    let st = g.P.Position.stands l.position in
    record {
      searching : IsSearching p l.budget st l.self;
      few_turns : l.self.turns ≤ (l.self.trials + 1) * 18446744073709551615;
      few_deep : l.self.deepest ≤ p.cells;
      trials : l.self.trials ≤ l.budget;
      ready : AreReady p st l.self.levels;
      long : AreGrids p.cells l.self.levels.grids;
      walks : g.P.Position.walks l.rules l.position;
      frames : length l.self.levels.frames.items ≡ length l.fn.self.levels.frames.items;
      room : g.P.Position.room l.position ≡ g.P.Position.room l.fn.position;
    }

abbrev pub decreases-loop-self : goal.decreases-loop-self
decreases-loop-self g l = 2 * (l.budget - l.self.trials) + l.self.levels.depth
