use Rattle.fields_core.proofs.Common.{arith, common_steps}
use Rattle.fields_core.proofs.RuleLemmas.{same-shape, start-blocked}
use Rattle.fields_core.proofs.count.rules.CountRulesRules.start.Goals as goal
use Rattle.fields_core.proofs.count.rules.CountRulesRules.start.Goals.{then-is_blocked, else-is_blocked}

pub loop-place-preserved : goal.loop-place-preserved
loop-place-preserved g c = elim c.if-is_blocked.branch [
  | then-is_blocked w ↦ rw w.board-is (grind (arith, common_steps, start-blocked, same-shape))
  | else-is_blocked w ↦ rw w.board-is (grind (arith, common_steps, start-blocked))
]
