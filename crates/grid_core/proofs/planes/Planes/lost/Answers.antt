use Rattle.grid_core.proofs.Common.{arith, eq-eqb, eqb-true, false, length-map, refl, sym, taking_at, taking_of, true, true≢false, ◌∙◌, ◌≡◌}
use Rattle.grid_core.specs.Planes.{planes_have}
use Rattle.grid_core.proofs.PlaneLemmas.{noted-more}
use Rattle.grid_core.proofs.PlaneSteps.{line_room, taking_read}
use Rattle.grid_core.proofs.TakingLemmas.{covered_since, takings-len}
use Rattle.grid_core.proofs.planes.Planes.lost.Goals as goal
use Rattle.grid_core.proofs.planes.Planes.lost.Goals.{After-index-change, else-change-eq0, then-change-eq0}

read : (g : _) (c : After-index-change g)
    → taking_at c.args.self.now.takings c.loop-k.k ≡ taking_of g.W.Word.bits c.index-change.result.now
read g c = grind (arith, takings-len, taking_read, length-map, c.self.invariant.takings, g.W.Word.bits, c.loop-k-test.true, c.index-change.ensures)

pub of-lines-requires : goal.of-lines-requires
of-lines-requires g c =
    rw (rw (← c.self.view_is) at (read g (goal.at.of-lines-requires g c).After-index-change))
    at (line_room g.W.Word.room _ c.loop-k.k c.self.invariant c.loop-k-test.true)

pub loop-k-init : goal.loop-k-init
loop-k-init g c = grind (arith)

pub loop-k-preserved : goal.loop-k-preserved
loop-k-preserved g c =
    let bits = g.W.Word.bits in
    let takings = c.args.self.now.takings in
    let own = read g (goal.at.loop-k-preserved g c).After-index-change in
    let i = c.loop-k.invariant in
    elim c.if-change-eq0.branch [
      | then-change-eq0 w ↦ rw (w.zeros-is, w.ones-is) (record {
        zeros = noted-more bits takings c.args.len c.loop-k.k true _ _ i.zeros w.either-zeros.ensures.own
            (λ is y x on. w.either-zeros.ensures.other y x (c.of-lines.ensures y x (rw own at on)));
        ones = noted-more bits takings c.args.len c.loop-k.k false _ _ i.ones (λ y x on. on)
            (λ is. absurd (true≢false (sym (eq-eqb _ 0 w.if-change-eq0.true) ∙ rw own at is)));
      })
      | else-change-eq0 w ↦ rw (w.zeros-is, w.ones-is) (record {
        zeros = noted-more bits takings c.args.len c.loop-k.k true _ _ i.zeros (λ y x on. on)
            (λ is. absurd (w.if-change-eq0.false (eqb-true _ 0 (rw own at is))));
        ones = noted-more bits takings c.args.len c.loop-k.k false _ _ i.ones w.either-ones.ensures.own
            (λ is y x on. w.either-ones.ensures.other y x (c.of-lines.ensures y x (rw own at on)));
      })
    ]

pub returns-clause-zeros : goal.returns-clause-zeros
returns-clause-zeros g c = λ cell on off.
    let t = c.loop-k-test.false in
    let e = c.loop-k.auto.k-end in
    covered_since c.args.self.now.size.w (planes_have c.args.self.now) c.args.self.now.takings c.args.len c.args.self.now.len cell 0 on off
    (λ k from lt is covered. c.loop-k.invariant.zeros k _ _ from (let less = rw (← c.self.view_is) at lt in omega arith) (eq-eqb _ 0 (sym is)) covered)

pub returns-clause-ones : goal.returns-clause-ones
returns-clause-ones g c = λ cell on off.
    let t = c.loop-k-test.false in
    let e = c.loop-k.auto.k-end in
    covered_since c.args.self.now.size.w (planes_have c.args.self.now) c.args.self.now.takings c.args.len c.args.self.now.len cell 1 on off
    (λ k from lt is covered. c.loop-k.invariant.ones k _ _ from (let less = rw (← c.self.view_is) at lt in omega arith) (rw (sym is) refl) covered)

pub returns-clause-lawful : goal.returns-clause-lawful
returns-clause-lawful g c = rw (← c.self.view_is) c.self.invariant
