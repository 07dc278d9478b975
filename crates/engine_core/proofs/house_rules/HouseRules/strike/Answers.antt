use Rattle.engine_core.proofs.Common.{◌∙◌, ◌≡◌}
use Rattle.engine_core.proofs.HouseLemmas.{kept-after, places-are, places-in}
use Rattle.engine_core.proofs.TrailLemmas.{kept-none}
use Rattle.engine_core.proofs.QueueLemmas.{within_of}
use Rattle.engine_core.proofs.house_rules.HouseRules.strike.Goals as goal

pub apply-requires-clause-places_in : goal.apply-requires-clause-places_in
apply-requires-clause-places_in g c =
    let puzzle = g.S.RuleSet.puzzle_of c.args.self.now.set in
    places-in c.args.self.now.listed (g.met.S.RuleSet.scopes_are puzzle) c.requires.house_in
    (rw (← c.self.view_is) c.places-places.ensures) (g.met.S.RuleSet.lawful puzzle
    (g.met.S.RuleSet.knows c.args.self.now.set)) c.requires.board_of

pub returns-then-filter-clause-left : goal.returns-then-filter-clause-left
returns-then-filter-clause-left g c =
    let set = c.args.self.now.set in
    let puzzle = g.S.RuleSet.puzzle_of set in
    let is : c.places-places.result.now ≡ (g.S.RuleSet.system puzzle).scope c.args.house =
    places-are c.args.self.now.listed (g.met.S.RuleSet.scopes_are puzzle) c.requires.house_in (rw (← c.self.view_is) c.places-places.ensures) in
    rw is at c.apply.ensures.left ∙ kept-after (g.met.S.RuleSet.lawful puzzle (g.met.S.RuleSet.knows set))
    c.requires.house_in (within_of _ _ c.requires.board_of) (rw c.if-filter.true at c.filter.ensures.filtered.kept_are)

pub returns-else-filter-clause-left : goal.returns-else-filter-clause-left
returns-else-filter-clause-left g c =
    let set = c.args.self.now.set in
    kept-none (g.met.S.RuleSet.lawful (g.S.RuleSet.puzzle_of set) (g.met.S.RuleSet.knows set))
    c.requires.house_in (within_of _ _ c.requires.board_of) (rw c.if-filter.false at c.filter.ensures.filtered.kept_are)
