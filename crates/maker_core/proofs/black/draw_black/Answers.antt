use Rattle.maker_core.proofs.Common.{Bool, IsGrid, List, Stream, ap, arith, cond, false, length, length-replicate, nat_lt, refl, subst, sym, true, ℕ, ◌+◌, ◌∙◌, ◌≡◌}
use Rattle.maker_core.proofs.PatternMakings.{IsPartDrawn, IsPartDrawn-none, IsPartDrawn-more, IsPartDrawn-all, black_cells-grid}
use Rattle.maker_core.proofs.black.draw_black.Goals as goal

pub loop-place-init : goal.loop-place-init
loop-place-init g c = IsPartDrawn-none (ap length (c.in_ok-grid.ensures) ∙ length-replicate c.args.cells 0)

pub loop-place-preserved : goal.loop-place-preserved
loop-place-preserved g c =
    subst (IsPartDrawn c.args.black c.args.cells (c.loop-place.place + 1) (g.G.Rng.stream c.args.rng.now) (g.G.Rng.stream c.draw.new.rng)) (sym c.set.ensures)
    (IsPartDrawn-more c.loop-place.invariant c.draw.ensures.drawn c.draw.ensures.below
    (value _ refl ∙ ap (λ n. cond (nat_lt c.draw.result n) 1 0) c.from.ensures) c.loop-place-test.true)
  where
    value : (b : Bool) → nat_lt c.draw.result c.from.result ≡ b → c.from-in-loop-place.result ≡ cond (nat_lt c.draw.result c.from.result) 1 0
    value true e = c.from-in-loop-place.ensures ∙ rw e refl
    value false e = c.from-in-loop-place.ensures ∙ rw e refl

pub returns-clause-drawn : goal.returns-clause-drawn
returns-clause-drawn g c =
    let all : c.loop-place.place ≡ c.args.cells = omega arith in
    IsPartDrawn-all (subst (λ k. IsPartDrawn c.args.black c.args.cells k (g.G.Rng.stream c.args.rng.now)
    (g.G.Rng.stream c.loop-place.rng) c.loop-place.grid) all c.loop-place.invariant)

pub returns-clause-grid : goal.returns-clause-grid
returns-clause-grid g c =
    let drawn = returns-clause-drawn g c in
    subst (IsGrid c.args.cells 2) (sym (ap (λ (q : List ℕ × Stream). q.0) drawn)) (black_cells-grid c.args.black c.args.cells (g.G.Rng.stream c.args.rng.now))
