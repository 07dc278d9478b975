use Rattle.fields_core.proofs.PlaneSweeps.{closed-met}
use Rattle.fields_core.proofs.planes.rules.CountRulesPlaneRules.completes.Goals as goal

pub completes-requires-clause-met : goal.completes-requires-clause-met
completes-requires-clause-met g c =
    let rules = c.args.self.now in closed-met (g.P.CountGame.counts rules.puzzle) rules.counting.are_houses c.requires.closed
