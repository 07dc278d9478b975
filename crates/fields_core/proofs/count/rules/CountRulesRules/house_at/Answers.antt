use Rattle.fields_core.proofs.Common.{count_house_of, has_place, rules}
use Rattle.fields_core.proofs.count.rules.CountRulesRules.house_at.Goals as goal

pub returns : goal.returns
returns g c =
    let houses = (g.P.CountGame.counts c.args.self.now.puzzle).houses in
    rw c.args.self.now.counted.houses_are at
    (c.next_passing.ensures (λ h. has_place (count_house_of houses h).places c.args.place) (λ d answer lt met. search rules))
