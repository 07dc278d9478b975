use Rattle.fields_core.proofs.Common.{◌∙◌}
use Rattle.fields_core.proofs.TentCompleting.{completed}
use Rattle.fields_core.proofs.tents.rules.TentsPuzzlePlaneGame.completes.Goals as goal

pub returns-clause-solution : goal.returns-clause-solution
returns-clause-solution c = c.are_paired.ensures.paired ∙ completed c.args.self.now c.args.grid.now c.are_paired.ensures.lawful c.requires.fits c.requires.met
