use Rattle.commands.proofs.Common.{solo_reading}
use Rattle.commands.proofs.games.solo.SoloPuzzlePlayed.read_id.Goals as goal

pub returns-clause-apart : goal.returns-clause-apart
returns-clause-apart c = solo_reading.apart c.args.id.now
