use Rattle.commands.proofs.Common.{light_reading}
use Rattle.commands.proofs.games.light_up.LightPuzzlePlayed.read_id.Goals as goal

pub returns-clause-apart : goal.returns-clause-apart
returns-clause-apart c = light_reading.apart c.args.id.now
