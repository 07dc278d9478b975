use Rattle.fields_core.proofs.Common.{Light, LightCell, Some, ap, has_number, is_numbered, refl, slice_get, white, ℕ, ◌*◌, ◌+◌, ◌∙◌, ◌≡◌}
use Rattle.fields_core.proofs.HouseLemmas.{cell-at, white-at}
use Rattle.fields_core.proofs.CellLemmas.{next-off, next-on}
use Rattle.fields_core.proofs.planes.light_up.tables.cells_of_row.Goals as goal
use Rattle.fields_core.proofs.planes.light_up.tables.cells_of_row.Goals.{in-White, in-Black, in-Numbered}

number-at : (p : Light) (c : ℕ) {cell : LightCell} → slice_get p.cells c ≡ Some cell → is_numbered p c ≡ has_number cell
unfolding is_numbered
number-at p c e = ap has_number (cell-at p c e)

pub loop-x-preserved : goal.loop-x-preserved
loop-x-preserved g c =
    let i = c.loop-x.invariant in let p = c.args.puzzle.now in
    let first = c.args.y * p.size.w in
    let is_white = white-at p (first + c.loop-x.x) (rw (c.columns-w.ensures.value) at c.cell.ensures.value) in
    let is_number = number-at p (first + c.loop-x.x) (rw (c.columns-w.ensures.value) at c.cell.ensures.value) in
    elim c.match-cell.branch [
      | in-White w ↦ rw (w.whites-is, w.numbers-is) (record {
        whites = next-on (λ x. white p (first + x)) c.loop-x.x _ _ (is_white ∙ rw (w.in-White.is) refl) i.whites (λ k. w.either-whites.ensures k ∙ rw (w.one.ensures k) refl);
        numbers = next-off (λ x. is_numbered p (first + x)) c.loop-x.x _ (is_number ∙ rw (w.in-White.is) refl) i.numbers;
      })
      | in-Black w ↦ rw (w.whites-is, w.numbers-is) (record {
        whites = next-off (λ x. white p (first + x)) c.loop-x.x _ (is_white ∙ rw (w.in-Black.is) refl) i.whites;
        numbers = next-off (λ x. is_numbered p (first + x)) c.loop-x.x _ (is_number ∙ rw (w.in-Black.is) refl) i.numbers;
      })
      | in-Numbered w ↦ rw (w.whites-is, w.numbers-is) (record {
        whites = next-off (λ x. white p (first + x)) c.loop-x.x _ (is_white ∙ rw (w.in-Numbered.is) refl) i.whites;
        numbers = next-on (λ x. is_numbered p (first + x)) c.loop-x.x _ _ (is_number ∙ rw (w.in-Numbered.is) refl) i.numbers (λ k. w.either-numbers.ensures k ∙ rw (w.one-in-Numbered.ensures k) refl);
      })
    ]
