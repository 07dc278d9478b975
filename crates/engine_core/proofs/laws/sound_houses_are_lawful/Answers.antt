use Rattle.engine_core.proofs.Common.{by_houses-lawful}
use Rattle.engine_core.proofs.laws.sound_houses_are_lawful.Goals as goal

pub returns : goal.returns
returns c = λ s houses fine sound queue sweeps. by_houses-lawful s houses fine sound queue sweeps
