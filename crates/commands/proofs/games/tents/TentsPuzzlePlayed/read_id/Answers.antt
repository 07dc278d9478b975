use Rattle.commands.proofs.Common.{tents_reading}
use Rattle.commands.proofs.games.tents.TentsPuzzlePlayed.read_id.Goals as goal

pub returns-clause-apart : goal.returns-clause-apart
returns-clause-apart c = tents_reading.apart c.args.id.now
