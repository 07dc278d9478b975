use Rattle.fields_core.proofs.TentRuleLemmas.{tents-tell}
use Rattle.fields_core.proofs.tents.rules.TentsPuzzleCountGame.accept.Goals as goal

pub returns-clause-solution : goal.returns-clause-solution
returns-clause-solution c =
    tents-tell c.args.self.now c.args.grid.now c.requires.fits c.find_fault.result c.find_fault.ensures.fault c.is_none.ensures
