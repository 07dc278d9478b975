use Rattle.commands.proofs.GameLaws.{too_long}
use Rattle.commands.proofs.Readings.{too_long_id}
use Rattle.commands.proofs.batch.line_reply.Goals as goal

pub returns-in-None : goal.returns-in-None
returns-in-None c = rw c.in-None.is (too_long_id c.args.task.game c.args.task.budget _ (too_long c.args.task.game) c.id_refused.ensures)
