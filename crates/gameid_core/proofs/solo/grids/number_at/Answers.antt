use Rattle.gameid_core.specs.Common.{arith, decimal, length-append}
use Rattle.gameid_core.proofs.Reading.{front_decimal, length_front}
use Rattle.gameid_core.proofs.solo.grids.number_at.Goals as goal

pub overflow_sub-result : goal.overflow_sub-result
overflow_sub-result c = rw c.leading_number-number.ensures.rest (omega (arith, length_front c.args.text.now))

pub returns-clause-read : goal.returns-clause-read
returns-clause-read c n after few other is =
    let front = front_decimal n after few other in
    let long = length-append (decimal n) after in
    rw (c.leading_number-number.ensures.value, c.leading_number-number.ensures.rest, is, front.0, front.1, front.2, long) (grind arith)
