use Rattle.std.proofs.Common.{arith}
use Rattle.solo_core.proofs.HouseLemmas.{few-listed}
use Rattle.solo_core.proofs.rule_sets.CrossingsRuleSet.parts.Goals as goal

pub push_crossings-requires-clause-fits : goal.push_crossings-requires-clause-fits
push_crossings-requires-clause-fits c =
    rw c.in_ok-houses.ensures.listed
    (omega (arith, few-listed c.args.puzzle.now c.in_ok-houses.ensures.known, c.crossings.ensures.count, c.crossings.ensures.few))
