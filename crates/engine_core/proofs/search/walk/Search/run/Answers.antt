use Rattle.engine_core.proofs.Common.{arith, common_steps, pick, refl, sym, ◌+◌, ◌∙◌}
use Rattle.engine_core.proofs.LevelLemmas.{walk-alone}
use Rattle.engine_core.proofs.SearchLemmas.{searching-first, searching-trial, ended-out, ended-none, ended-one, ended-two}
use Rattle.engine_core.proofs.search.walk.Search.run.Goals as goal
use Rattle.engine_core.proofs.search.walk.Search.run.Goals.{then-values-eq2, else-values-eq2}

pub descend-requires-clause-none : goal.descend-requires-clause-none
unfolding pick
descend-requires-clause-none g c = refl

pub loop-self-init : goal.loop-self-init
loop-self-init g c =
    let p = g.R.Rules.system c.args.rules.now in
    let d = c.descend.ensures in
    let marks = sym (walk-alone p _ (g.P.Position.stands c.begin.new.self) c.args.self.now.levels.frames.items) ∙ d.marks in
    let first =
    searching-first c.args.budget
    (record { levels = c.descend.new.self; trials = 0; turns = c.descend.result; deepest = 0 })
    (rw c.begin.ensures.start at marks) (rw c.begin.ensures.start at d.turns) refl refl in
    grind (arith, common_steps, first)

pub loop-self-preserved : goal.loop-self-preserved
loop-self-preserved g c =
    let t = c.in-Some.ensures.turn in
    let deep = t.deep in
    let d = c.descend-in-Some in
    let l = c.loop-self in
    let made =
    searching-trial l.invariant.searching d.result
    (record {
      levels = d.new.self;
      trials = l.self.trials + 1;
      turns = l.self.turns + d.result;
      deepest = c.max-self.result;
    }) t c.in-Some.ensures.grids
    c.if-self-lt2.true (omega (arith, c.if-self-budget.false, l.invariant.trials)) d.ensures.turns
    d.ensures.marks refl refl c.max-self.ensures in
    grind (arith, common_steps, made)

pub returns-then-self-budget-clause-searched : goal.returns-then-self-budget-clause-searched
returns-then-self-budget-clause-searched g c =
    ended-out c.loop-self.invariant.searching c.in-Some.ensures.turn c.in-Some.ensures.grids c.if-self-lt2.true c.if-self-budget.true

pub descend-requires-in-Some-clause-none : goal.descend-requires-in-Some-clause-none
unfolding pick
descend-requires-in-Some-clause-none g c = elim c.if-values-eq2.branch [
  | then-values-eq2 w ↦ rw w.from-is (c.in-Some.ensures.turn.none_before (sym c.values.ensures ∙ w.if-values-eq2.true))
  | else-values-eq2 w ↦ rw w.from-is refl
]

pub returns-in-0-clause-searched : goal.returns-in-0-clause-searched
returns-in-0-clause-searched g c = ended-none c.loop-self.invariant.searching (grind arith) c.in-0.is

pub returns-in-1-clause-searched : goal.returns-in-1-clause-searched
returns-in-1-clause-searched g c = ended-one c.loop-self.invariant.searching (grind arith) c.in-1.is

pub returns-in_default-clause-searched : goal.returns-in_default-clause-searched
returns-in_default-clause-searched g c = ended-two c.loop-self.invariant.searching (omega arith)
