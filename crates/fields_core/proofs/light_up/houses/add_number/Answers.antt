use Rattle.fields_core.proofs.Common.{Numbered, Some, arith, exactly, filter, length, or-false, refl, rules, slice_get, steps, sym, white, ◌*◌, ◌+◌, ◌≡◌}
use Rattle.fields_core.proofs.HouseLemmas.{cell-at, number-at, number-none}
use Rattle.fields_core.proofs.MeasureLemmas.{adds-none, unasked}
use Rattle.fields_core.proofs.light_up.houses.add_number.Goals as goal
use Rattle.fields_core.proofs.light_up.houses.add_number.Goals.{After-add}

-- the number that was read, and how many white cells are beside it
number : (c : After-add) → slice_get c.args.puzzle.now.cells (c.args.y * c.args.puzzle.now.size.w + c.args.x) ≡ Some (Numbered c.in-Numbered.number)
number c = rw (c.in-Numbered.is, c.columns.ensures.value) at c.cell.ensures.value

cells : (c : After-add) → c.count_passing-cells.result ≡ length (filter (white c.args.puzzle.now) (steps c.args.puzzle.now.size (c.args.y * c.args.puzzle.now.size.w + c.args.x) 4))
cells c = rw c.size.ensures.value at (c.count_passing-cells.ensures.count (white c.args.puzzle.now) (λ d answer lt met. search rules))

pub returns-in-Numbered-clause-added : goal.returns-in-Numbered-clause-added
returns-in-Numbered-clause-added c =
    let p = c.args.puzzle.now in let place = c.args.y * p.size.w + c.args.x in
    let after = (goal.at.returns-in-Numbered-clause-added c).After-add in
    let added = c.add.ensures.added (exactly c.in-Numbered.number (filter (white p) (steps p.size place 4))) (cells after) in
    rw (sym (number-at p place c.in-Numbered.number (number after))) (record { houses_are = added.houses_are; longest_is = added.longest_is })

pub returns-in-Numbered-clause-unmet : goal.returns-in-Numbered-clause-unmet
returns-in-Numbered-clause-unmet c =
    let p = c.args.puzzle.now in let after = (goal.at.returns-in-Numbered-clause-unmet c).After-add in
    rw (c.add.ensures.unmet, cell-at p (c.args.y * p.size.w + c.args.x) (number after), cells after) refl

pub returns-in_default : goal.returns-in_default
returns-in_default c =
    let p = c.args.puzzle.now in let place = c.args.y * p.size.w + c.args.x in
    let cell = rw c.columns.ensures.value at c.cell.ensures.value in
    record {
      added = adds-none c.args.measured.now (number-none p place c.cell.result cell c.in_default.not-Numbered);
      few = omega arith;
      unmet = rw (unasked p place c.cell.result cell c.in_default.not-Numbered) (sym (or-false c.args.measured.now.unmet));
    }
