use Rattle.grid_core.proofs.Common.{arith, bit_of, has_bit, length-map, map, sym, ℕ, ◌∙◌, ◌≡◌}
use Rattle.grid_core.proofs.PlaneSteps.{word_read}
use Rattle.grid_core.proofs.planes.Planes.row.Goals as goal
use Rattle.grid_core.proofs.planes.Planes.row.Goals.{After-index}

read : (g : _) (c : After-index g) (x : ℕ)
    → has_bit (g.W.Word.bits c.index.result.now) x ≡ bit_of
    (map g.W.Word.bits c.self.inside.rows.items) c.args.y c.args.value x
read g c =
    let r = rw (← c.self.view_is) at c.requires in
    word_read g.W.Word.bits c.self.inside.rows.items c.args.y c.args.value c.index.result.now
    (omega (arith, r.row_in, r.value_in, c.self.invariant.tall, length-map c.self.inside.rows.items g.W.Word.bits)) (rw (c.from.ensures, c.from-2.ensures) at c.index.ensures)

pub returns-clause-cells : goal.returns-clause-cells
returns-clause-cells g c = rw (← c.self.view_is) (read g (goal.at.returns-clause-cells g c).After-index)

pub returns-clause-lawful : goal.returns-clause-lawful
returns-clause-lawful g c = rw (← c.self.view_is) c.self.invariant

pub returns-clause-within : goal.returns-clause-within
returns-clause-within g c =
    let r = rw (← c.self.view_is) at c.requires in
    rw (← c.self.view_is) (λ x on. (c.self.invariant.words.within c.args.y x c.args.value r.value_in (sym (read g (goal.at.returns-clause-within g c).After-index x) ∙ on)).1)
