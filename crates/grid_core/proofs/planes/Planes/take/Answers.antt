use Rattle.grid_core.proofs.Common.{and_parts, at_line, has_bit, refl, sym, ℕ, ◌&&◌, ◌∙◌, ◌≡◌}
use Rattle.grid_core.proofs.PlaneLemmas.{further-none, is-there, without-none, without-there}
use Rattle.grid_core.proofs.planes.Planes.take.Goals as goal
use Rattle.grid_core.proofs.planes.Planes.take.Goals.{After-is_some}

-- the cells that can have the value, of those asked for
there : (g : _) (c : After-is_some g) (k : ℕ)
    → has_bit (g.W.Word.bits c.both-there.result)
    k ≡ (at_line c.args.self.now c.args.line c.args.value k && has_bit (g.W.Word.bits c.args.bits)
    k)
there g c k = c.both-there.ensures k ∙ rw (c.line.ensures.cells k) refl

pub take_all-requires : goal.take_all-requires
take_all-requires g c =
    is-there c.args.self.now c.args.line c.args.value (g.W.Word.bits c.args.bits) (g.W.Word.bits c.both-there.result) g.W.Word.room c.requires.value_in
    (there g (goal.at.take_all-requires g c).After-is_some) (sym c.is_some.ensures ∙ c.if-is_some.true)

pub returns-then-is_some-clause-left : goal.returns-then-is_some-clause-left
returns-then-is_some-clause-left g c =
    c.take_all.ensures.left
    ∙ without-there c.args.self.now c.args.line c.args.value (g.W.Word.bits c.args.bits)
    (g.W.Word.bits c.both-there.result)
    (there g (goal.at.returns-then-is_some-clause-left g c).After-is_some)

pub returns-else-is_some-clause-left : goal.returns-else-is_some-clause-left
returns-else-is_some-clause-left g c =
    without-none c.args.self.now c.args.line c.args.value (g.W.Word.bits c.both-there.result)
    g.W.Word.room c.line.ensures.fits (sym c.is_some.ensures ∙ c.if-is_some.false)
    (λ k on. c.line.ensures.within k (and_parts _ _ (sym (c.both-there.ensures k) ∙ on)).0)
    ∙ without-there c.args.self.now c.args.line c.args.value (g.W.Word.bits c.args.bits)
    (g.W.Word.bits c.both-there.result)
    (there g (goal.at.returns-else-is_some-clause-left g c).After-is_some)

pub returns-else-is_some-clause-further : goal.returns-else-is_some-clause-further
returns-else-is_some-clause-further g c = further-none c.args.self.now
