use Rattle.engine_core.proofs.Common.{arith, pick, refl, sym, ◌∙◌}
use Rattle.engine_core.proofs.LevelLemmas.{ready-retried, top-open}
use Rattle.engine_core.proofs.search.levels.Levels.finds_two.Goals as goal
use Rattle.engine_core.proofs.search.levels.Levels.finds_two.Goals.{then-values-eq2, else-values-eq2}

pub descend-requires-clause-none : goal.descend-requires-clause-none
unfolding pick
descend-requires-clause-none g c = refl

pub descend-requires-in-Some-clause-none : goal.descend-requires-in-Some-clause-none
unfolding pick
descend-requires-in-Some-clause-none g c = elim c.if-values-eq2.branch [
  | then-values-eq2 w ↦ rw w.from-is (c.in-Some.ensures.turn.none_before (sym c.values.ensures ∙ w.if-values-eq2.true))
  | else-values-eq2 w ↦ rw w.from-is refl
]

pub prefer-requires-clause-room : goal.prefer-requires-clause-room
prefer-requires-clause-room g c =
    let ready = c.loop-left.invariant.ready in
    omega (arith, c.if-self-gt0.true, (top-open ready c.if-self-gt0.true).1, ready.room)

pub prefer-requires-clause-cell_in : goal.prefer-requires-clause-cell_in
prefer-requires-clause-cell_in g c = rw c.requires.cells (top-open c.loop-left.invariant.ready c.if-self-gt0.true).0

pub next_trial-requires-clause-ready : goal.next_trial-requires-clause-ready
next_trial-requires-clause-ready g c =
    let p = c.prefer.ensures in
    rw (p.frames, p.depth) (ready-retried c.loop-left.invariant.ready c.if-self-gt0.true p.next)
