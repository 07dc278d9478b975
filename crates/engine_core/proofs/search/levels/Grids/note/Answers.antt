use Rattle.engine_core.proofs.Common.{arith, common_steps}
use Rattle.engine_core.proofs.JudgeLemmas.{solves-noted}
use Rattle.engine_core.proofs.search.levels.Grids.note.Goals as goal
use Rattle.engine_core.proofs.search.levels.Grids.note.Goals.{then-self-eq0, else-self-eq0}

pub returns-clause-solved : goal.returns-clause-solved
returns-clause-solved g c old = elim c.if-self-eq0.branch [
  | then-self-eq0 w ↦
      let made = w.accept-solved.ensures in
      let solves = solves-noted (g.R.Rules.system c.args.rules.now) _ _ c.requires.full made.grid made.solution in
      rw w.self-is (record { first = λ lt. grind (arith, common_steps, solves); second = λ lt. grind (arith, common_steps) })
  | else-self-eq0 w ↦
      let made = w.accept-solved-else-self-eq0.ensures in
      let solves = solves-noted (g.R.Rules.system c.args.rules.now) _ _ c.requires.full made.grid made.solution in
      rw w.self-is (record { first = λ lt. grind (arith, common_steps, old.first); second = λ lt. grind (arith, common_steps, solves) })
]
