use Rattle.engine_core.proofs.Common.{arith}
use Rattle.engine_core.proofs.JudgeLemmas.{scope_le-longest}
use Rattle.engine_core.proofs.house_rules.HouseRulesRules.visit.Goals as goal

pub strike-requires-clause-sets_room : goal.strike-requires-clause-sets_room
strike-requires-clause-sets_room g c =
    let p = g.S.RuleSet.system (g.S.RuleSet.puzzle_of c.args.self.now.set) in
    omega (arith, c.deref_mut.ensures.len, c.requires.served.0, scope_le-longest p.scope p.houses c.args.house c.requires.house_in)

pub strike-requires-clause-kept_room : goal.strike-requires-clause-kept_room
strike-requires-clause-kept_room g c =
    let p = g.S.RuleSet.system (g.S.RuleSet.puzzle_of c.args.self.now.set) in
    omega (arith, c.deref_mut-2.ensures.len, c.requires.served.1, scope_le-longest p.scope p.houses c.args.house c.requires.house_in)
