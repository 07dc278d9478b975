use Rattle.maker_core.proofs.Common.{ap, reasons_from, ◌∙◌}
use Rattle.maker_core.proofs.ThinningTurns.{answer_left, reasons_left}
use Rattle.maker_core.proofs.thinning.thin.thin.Goals as goal

pub try_clues-requires-clause-one : goal.try_clues-requires-clause-one
try_clues-requires-clause-one g c = record { answer = _; found = c.requires.found; only = c.requires.only }

pub returns-clause-only : goal.returns-clause-only
returns-clause-only g c = (answer_left g.met.P.Clued.lawful _ c.in_ok-whys.ensures c.requires.only).0

pub returns-clause-found : goal.returns-clause-found
returns-clause-found g c = (answer_left g.met.P.Clued.lawful _ c.in_ok-whys.ensures c.requires.only).1

pub returns-clause-reasons : goal.returns-clause-reasons
returns-clause-reasons g c =
    reasons_left g.met.P.Clued.lawful _ c.in_ok-whys.ensures c.requires.all
    (c.in_ok-kept.ensures ∙ ap (reasons_from 0) c.deref-2.ensures.value)
