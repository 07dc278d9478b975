use Rattle.solo_core.proofs.OpenLemmas.{none-over, some-over}
use Rattle.solo_core.proofs.PeelLemmas.{decided_by_peeled}
use Rattle.solo_core.proofs.visits.houses.keep_settled.Goals as goal

pub returns-clause-decided : goal.returns-clause-decided
returns-clause-decided c =
    some-over c.keep_counted.result (decided_by_peeled c.strike_settled-is_struck.ensures.peeled) c.keep_counted.ensures.decided

pub returns-clause-none : goal.returns-clause-none
returns-clause-none c =
    none-over c.keep_counted.result (decided_by_peeled c.strike_settled-is_struck.ensures.peeled) c.keep_counted.ensures.none
