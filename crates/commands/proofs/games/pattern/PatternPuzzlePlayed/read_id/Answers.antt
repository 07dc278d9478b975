use Rattle.commands.proofs.Common.{pattern_reading}
use Rattle.commands.proofs.games.pattern.PatternPuzzlePlayed.read_id.Goals as goal

pub returns-clause-apart : goal.returns-clause-apart
returns-clause-apart c = pattern_reading.apart c.args.id.now
