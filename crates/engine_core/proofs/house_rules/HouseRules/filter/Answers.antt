use Rattle.engine_core.proofs.Common.{AreSetsOf, has}
use Rattle.engine_core.proofs.HouseLemmas.{places-in, places-read}
use Rattle.engine_core.proofs.house_rules.HouseRules.filter.Goals as goal
use Rattle.engine_core.proofs.house_rules.HouseRules.filter.Goals.{After-gather}

pub gather-requires-clause-places_in : goal.gather-requires-clause-places_in
gather-requires-clause-places_in g c =
    let puzzle = g.S.RuleSet.puzzle_of c.args.self.now.set in
    places-in c.args.self.now.listed (g.met.S.RuleSet.scopes_are puzzle) c.requires.house_in
    (rw (← c.self.view_is) c.places-places.ensures) (g.met.S.RuleSet.lawful puzzle
    (g.met.S.RuleSet.knows c.args.self.now.set)) c.requires.board_of

-- the sets that were read
read : (g : _) (c : After-gather g)
    → AreSetsOf (g.S.RuleSet.system (g.S.RuleSet.puzzle_of c.args.self.now.set)) c.args.house
    (has c.args.board.now) c.gather.new.sets
read g c =
    let puzzle = g.S.RuleSet.puzzle_of c.args.self.now.set in
    places-read c.args.self.now.listed (g.met.S.RuleSet.scopes_are puzzle) c.requires.house_in (rw (← c.self.view_is) c.places-places.ensures) c.args.sets.now _ c.requires.board_of
    c.requires.sets_room c.gather.auto.sets c.gather.ensures.bits

pub filter-requires-clause-sets : goal.filter-requires-clause-sets
filter-requires-clause-sets g c = record { board = has c.args.board.now; are = rw (← c.self.view_is) at (read g (goal.at.filter-requires-clause-sets g c).After-gather) }
