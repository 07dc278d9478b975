use Rattle.engine_core.proofs.HouseLemmas.{scopes-fit}
use Rattle.engine_core.proofs.house_rules.HouseRules.new.Goals as goal

pub of-requires-clause-scopes : goal.of-requires-clause-scopes
of-requires-clause-scopes g c =
    let puzzle = c.args.puzzle.now in
    rw (c.freeze.ensures, c.in_ok-set.ensures.scopes, c.in_ok-set.ensures.cells)
    (scopes-fit (g.met.S.RuleSet.lawful puzzle c.in_ok-set.ensures.known)
    (g.met.S.RuleSet.scopes_are puzzle))
