use Rattle.fields_core.proofs.Common.{none_exactly}
use Rattle.fields_core.proofs.TentRuleLemmas.{tents-none}
use Rattle.fields_core.proofs.tents.check.check_tents.Goals as goal

pub returns-clause-solution : goal.returns-clause-solution
returns-clause-solution c =
    none_exactly _ _
    (tents-none c.args.puzzle.now c.args.grid.now c.requires.fits) c.find_fault-fault.result
    c.find_fault-fault.ensures.fault
