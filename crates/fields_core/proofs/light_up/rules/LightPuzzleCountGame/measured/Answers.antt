use Rattle.fields_core.proofs.Common.{ap, not, sym}
use Rattle.fields_core.proofs.LightCompleting.{completed}
use Rattle.fields_core.proofs.light_up.rules.LightPuzzleCountGame.measured.Goals as goal

pub returns-clause-flagged : goal.returns-clause-flagged
returns-clause-flagged c = let counted = c.measure_lights.ensures in
    λ flags g fits met. sym (completed c.args.self.now g counted.lawful fits met (ap not counted.lonely))
