use Rattle.gameid_core.specs.Common.{arith, common_steps}
use Rattle.std.proofs.lemmas.Fmt.{decimal_digit}
use Rattle.gameid_core.proofs.text.writing.push_number.Goals as goal

pub returns-then-n-lt10 : goal.returns-then-n-lt10
returns-then-n-lt10 c = grind (arith, common_steps, decimal_digit)
