use Rattle.fields_core.proofs.Common.{arith, common_steps, eq-eqb, eqb, inl, inr, ne_eqb, pieces_of, ℕ, ◌-◌, ◌<◌, ◌∙◌, ◌≡◌}
use Rattle.fields_core.proofs.PartLemmas.{at_bound, bound-reached, broken, counted-fewer, none-undecided, struck-alive, visited-idle, visited-struck}
use Rattle.fields_core.proofs.planes.visit.visit.Goals as goal
use Rattle.fields_core.proofs.planes.visit.visit.Goals.{After-strike, then-may-least-via-then-may-least, then-may-least-via-else-may-least+then-most-must}

pub overflow_sub-must : goal.overflow_sub-must
overflow_sub-must g c = counted-fewer c.requires.alive c.count-may.ensures

pub returns-then-must-most-clause-left : goal.returns-then-must-most-clause-left
returns-then-must-most-clause-left g c = λ _ house of.
    let some = c.if-least-may.true in let spare = c.if-must-most.true in
    visited-idle c.args.planes.now (pieces_of g.W.Word.bits c.args.parts.now) c.count-may.result.0
    c.count-may.result.1 c.args.least c.args.most c.requires.alive c.count-may.ensures
    c.requires.order house of (omega (arith, some)) (omega (arith, spare))
    (λ d v low. grind (arith, common_steps, ne_eqb))

pub returns-then-may-least-clause-broken : goal.returns-then-may-least-clause-broken
returns-then-may-least-clause-broken g c = λ _ house of.
    broken c.args.planes.now (pieces_of g.W.Word.bits c.args.parts.now) c.count-may.result.0
    c.count-may.result.1 c.args.least c.args.most c.requires.alive c.count-may.ensures
    c.requires.order house of
    (elim c.then-may-least.branch [
      | then-may-least-via-then-may-least w ↦ inl w.if-may-least.true
      | then-may-least-via-else-may-least+then-most-must w ↦ inr w.if-most-must.true
    ])

-- the value that is struck is that of the bound that is reached
struck : (g : _) (c : After-strike g) → (c.from.result < 2) × ((v : ℕ) → v < 2
    → at_bound c.args.least c.args.most (c.count-may.result.0 - c.count-may.result.1) c.count-may.result.0 v ≡ eqb v c.from.result)
struck g c = grind (arith, common_steps, counted-fewer, bound-reached, eq-eqb, ne_eqb, c.requires.alive, c.count-may.ensures, c.if-may-least.false, c.if-most-must.false, c.if-undecided-gt0.true, c.requires.order, c.from.ensures)

pub returns-then-undecided-gt0-clause-left : goal.returns-then-undecided-gt0-clause-left
returns-then-undecided-gt0-clause-left g c = λ _ house of.
    let value = struck g (goal.at.returns-then-undecided-gt0-clause-left g c).After-strike in
    c.strike.ensures.left
    ∙ visited-struck c.args.planes.now (pieces_of g.W.Word.bits c.args.parts.now) c.count-may.result.0
    c.count-may.result.1 c.args.least c.args.most c.requires.alive c.count-may.ensures
    c.requires.order house of value.0 c.if-may-least.false c.if-most-must.false value.1

pub returns-then-undecided-gt0-clause-alive : goal.returns-then-undecided-gt0-clause-alive
returns-then-undecided-gt0-clause-alive g c =
    struck-alive c.args.planes.now c.strike.new.planes _ _ c.from.result c.strike.ensures.further.same_size
    (struck g (goal.at.returns-then-undecided-gt0-clause-alive g c).After-strike).0 c.requires.alive c.strike.ensures.left

pub returns-else-undecided-gt0-clause-left : goal.returns-else-undecided-gt0-clause-left
returns-else-undecided-gt0-clause-left g c = λ _ house of.
    visited-idle c.args.planes.now (pieces_of g.W.Word.bits c.args.parts.now) c.count-may.result.0
    c.count-may.result.1 c.args.least c.args.most c.requires.alive c.count-may.ensures
    c.requires.order house of
    c.if-may-least.false c.if-most-must.false
    (λ d v low. none-undecided d _ of c.count-may.ensures (omega (arith, c.if-undecided-gt0.false)))
