use Rattle.fields_core.proofs.LightRuleLemmas.{light-tells}
use Rattle.fields_core.proofs.light_up.rules.LightPuzzleCountGame.accept.Goals as goal

pub returns-clause-solution : goal.returns-clause-solution
returns-clause-solution c =
    light-tells c.args.self.now c.args.grid.now c.requires.fits c.check_lights.result c.check_lights.ensures.fault c.is_none.ensures
