use Rattle.fields_core.proofs.Common.{refl, sym}
use Rattle.fields_core.proofs.light_up.rules.LightPuzzlePlaneGame.completes.Goals as goal

pub returns-clause-solution : goal.returns-clause-solution
returns-clause-solution c = sym (c.requires.flagged refl c.args._grid.now c.requires.fits c.requires.met)
