use Rattle.gameid_core.proofs.HeadFaults.{head_exact, size_exact}
use Rattle.gameid_core.proofs.laws.first_failed_test.Goals as goal

pub returns-clause-size : goal.returns-clause-size
returns-clause-size c = size_exact

pub returns-clause-head : goal.returns-clause-head
returns-clause-head c = head_exact
