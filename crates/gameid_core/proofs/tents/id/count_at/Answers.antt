use Rattle.gameid_core.specs.Common.{arith}
use Rattle.gameid_core.specs.TentsText.{tents_count}
use Rattle.gameid_core.proofs.Reading.{cuts_some, cuts_single, cuts_joined}
use Rattle.gameid_core.proofs.TentsTexts.{front_some}
use Rattle.gameid_core.proofs.tents.id.count_at.Goals as goal

pub returns-then-places-cells : goal.returns-then-places-cells
unfolding tents_count
returns-then-places-cells c = grind (arith, cuts_some 44 c.args.after.now)

pub returns-then-counts-line_count : goal.returns-then-counts-line_count
unfolding tents_count
returns-then-counts-line_count c = grind (arith, cuts_some 44 c.args.after.now)

pub returns-then-not-starts_with_digit : goal.returns-then-not-starts_with_digit
unfolding tents_count
returns-then-not-starts_with_digit c = grind (arith, cuts_single 44 c.args.after.now)

pub returns-then-number-line_len : goal.returns-then-number-line_len
unfolding tents_count
returns-then-number-line_len c = grind (arith, cuts_joined 44 c.args.after.now, front_some c.args.after.now)

pub returns : goal.returns
unfolding tents_count
returns c = grind (arith, cuts_joined 44 c.args.after.now, front_some c.args.after.now)
