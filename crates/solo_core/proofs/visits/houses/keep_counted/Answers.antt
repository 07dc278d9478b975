use Rattle.solo_core.proofs.OpenLemmas.{none-over, some-over}
use Rattle.solo_core.proofs.PeelLemmas.{decided_by_peeled}
use Rattle.solo_core.proofs.visits.houses.keep_counted.Goals as goal

pub returns-clause-decided : goal.returns-clause-decided
returns-clause-decided c =
    some-over c.keep_unless_whole.result (decided_by_peeled c.peel_if_open-lone.ensures.peeled) c.keep_unless_whole.ensures.decided

pub returns-clause-none : goal.returns-clause-none
returns-clause-none c =
    none-over c.keep_unless_whole.result (decided_by_peeled c.peel_if_open-lone.ensures.peeled) c.keep_unless_whole.ensures.none
