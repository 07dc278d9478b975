use Rattle.commands.proofs.RequestsAnswered.{checked}
use Rattle.commands.proofs.RunLemmas.{ran_some}
use Rattle.commands.proofs.check.check_id.Goals as goal

pub returns-in-Solo-clause-ran : goal.returns-in-Solo-clause-ran
returns-in-Solo-clause-ran g c = ran_some (checked c.args.game c.args.id.now) (rw c.in-Solo.is c.check_one.ensures.ran)

pub returns-in-Solo-clause-left : goal.returns-in-Solo-clause-left
returns-in-Solo-clause-left g c = rw c.in-Solo.is c.check_one.ensures.left

pub returns-in-Pattern-clause-ran : goal.returns-in-Pattern-clause-ran
returns-in-Pattern-clause-ran g c = ran_some (checked c.args.game c.args.id.now) (rw c.in-Pattern.is c.check_one-in-Pattern.ensures.ran)

pub returns-in-Pattern-clause-left : goal.returns-in-Pattern-clause-left
returns-in-Pattern-clause-left g c = rw c.in-Pattern.is c.check_one-in-Pattern.ensures.left

pub returns-in-LightUp-clause-ran : goal.returns-in-LightUp-clause-ran
returns-in-LightUp-clause-ran g c = ran_some (checked c.args.game c.args.id.now) (rw c.in-LightUp.is c.check_one-in-LightUp.ensures.ran)

pub returns-in-LightUp-clause-left : goal.returns-in-LightUp-clause-left
returns-in-LightUp-clause-left g c = rw c.in-LightUp.is c.check_one-in-LightUp.ensures.left

pub returns-in-Tents-clause-ran : goal.returns-in-Tents-clause-ran
returns-in-Tents-clause-ran g c = ran_some (checked c.args.game c.args.id.now) (rw c.in-Tents.is c.check_one-in-Tents.ensures.ran)

pub returns-in-Tents-clause-left : goal.returns-in-Tents-clause-left
returns-in-Tents-clause-left g c = rw c.in-Tents.is c.check_one-in-Tents.ensures.left
