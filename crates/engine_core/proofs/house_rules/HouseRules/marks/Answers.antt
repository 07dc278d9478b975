use Rattle.engine_core.proofs.HouseLemmas.{marks-of}
use Rattle.engine_core.proofs.house_rules.HouseRules.marks.Goals as goal

pub returns : goal.returns
returns g c = rw c.marks.ensures.words (marks-of c.args.self.now.listed (g.met.S.RuleSet.scopes_are (g.S.RuleSet.puzzle_of c.args.self.now.set)) c.marks.ensures.marks)
