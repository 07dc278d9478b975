use Rattle.grid_core.proofs.Common.{arith, bit_of, has_bit, length-map, map, sym, ℕ, ◌∙◌, ◌≡◌}
use Rattle.grid_core.proofs.PlaneSteps.{word_read}
use Rattle.grid_core.proofs.planes.Planes.column.Goals as goal
use Rattle.grid_core.proofs.planes.Planes.column.Goals.{After-index}

read : (g : _) (c : After-index g) (y : ℕ)
    → has_bit (g.W.Word.bits c.index.result.now) y ≡ bit_of
    (map g.W.Word.bits c.self.inside.rows.items) y c.args.value c.args.x
read g c y =
    let r = rw (← c.self.view_is) at c.requires in
    let words = c.self.invariant.words in
    word_read g.W.Word.bits c.self.inside.columns.items c.args.x c.args.value c.index.result.now
    (omega (arith, r.column_in, r.value_in, c.self.invariant.wide, length-map c.self.inside.columns.items g.W.Word.bits)) (rw (c.from.ensures, c.from-2.ensures) at c.index.ensures) y
    ∙ sym (words.agree y c.args.x c.args.value r.value_in)

pub returns-clause-cells : goal.returns-clause-cells
returns-clause-cells g c = rw (← c.self.view_is) (read g (goal.at.returns-clause-cells g c).After-index)

pub returns-clause-lawful : goal.returns-clause-lawful
returns-clause-lawful g c = rw (← c.self.view_is) c.self.invariant

pub returns-clause-within : goal.returns-clause-within
returns-clause-within g c =
    let r = rw (← c.self.view_is) at c.requires in
    rw (← c.self.view_is) (λ y on. (c.self.invariant.words.within y c.args.x c.args.value r.value_in (sym (read g (goal.at.returns-clause-within g c).After-index y) ∙ on)).0)
