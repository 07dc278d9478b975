use Rattle.commands.proofs.RequestsAnswered.{answered}
use Rattle.commands.proofs.laws.each_request_has_an_answer.Goals as goal

pub returns : goal.returns
returns c = answered
