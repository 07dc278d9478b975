use Rattle.gameid_core.specs.Common.{arith, common_steps, reading, words}
use Rattle.gameid_core.proofs.SoloTexts.{solo_lawful}
use Rattle.gameid_core.proofs.solo.id.SoloPuzzleIdText.read_description.Goals as goal

pub loop-first-preserved : goal.loop-first-preserved
unfolding reading
loop-first-preserved c = record {
  short = grind (arith, common_steps);
  room = grind (arith, common_steps);
  so_far = grind (arith, common_steps);
}

pub invariant_of-result : goal.invariant_of-result
unfolding reading words
invariant_of-result c = solo_lawful c.args.head.description c.args.description.now c.requires.range (grind (arith, common_steps))
