use Rattle.gameid_core.specs.Common.{arith, common_steps, reading}
use Rattle.gameid_core.proofs.PatternTexts.{number_turn, token_small, used_push}
use Rattle.gameid_core.proofs.pattern.id.clues.Goals as goal

pub loop-first-preserved : goal.loop-first-preserved
unfolding reading
loop-first-preserved c = record {
  short = grind (arith, common_steps);
  before = grind (arith, common_steps, used_push);
  small = grind (arith, common_steps, token_small);
  so_far = grind (arith, common_steps, number_turn);
}
