use Rattle.gameid_core.specs.Common.{arith}
use Rattle.gameid_core.proofs.SoloTexts.{solo_given, solo_over, solo_letter, solo_gap, bad_byte}
use Rattle.gameid_core.proofs.solo.id.next_run.Goals as goal

pub returns-then-first-le122 : goal.returns-then-first-le122
returns-then-first-le122 c = grind (arith, solo_letter c.args.n c.args.at c.args.first c.args.after.now)

pub returns-then-first-eq95 : goal.returns-then-first-eq95
returns-then-first-eq95 c = grind (arith, solo_gap c.args.n c.args.at c.args.after.now)

pub returns-then-number-from : goal.returns-then-number-from
returns-then-number-from c = grind (arith, solo_over c.args.n c.args.at c.args.rest.now)

pub returns-then-first-le57 : goal.returns-then-first-le57
returns-then-first-le57 c = grind (arith, solo_given c.args.n c.args.at c.args.rest.now)

pub returns : goal.returns
returns c = grind (arith, bad_byte c.args.n c.args.at c.args.first c.args.rest.now c.args.after.now)
