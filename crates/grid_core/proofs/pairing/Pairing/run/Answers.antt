use Rattle.grid_core.proofs.Common.{arith}
use Rattle.grid_core.proofs.PairingLemmas.{IsShortSet-from_closed}
use Rattle.grid_core.proofs.pairing.Pairing.run.Goals as goal

pub returns-in-None-clause-short : goal.returns-in-None-clause-short
returns-in-None-clause-short g c _ =
    IsShortSet-from_closed _ _ _ _ c.explore.new.frontier _ c.in-None.ensures.reach c.in-None.ensures.found c.sort.ensures.same
    (omega arith) c.sort.ensures.ascending

pub returns-clause-all : goal.returns-clause-all
returns-clause-all g c _ = grind (arith, c.count.ensures.own)
