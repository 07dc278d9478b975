use Rattle.fields_core.proofs.Common.{ArePieces, ArePlanes, Black, Extent, Light, Numbered, ap, arith, get_or, length-map, ne_eqb, refl, row-at, subst, sym, true≢false, white, ℕ, ◌*◌, ◌+◌, ◌∙◌, ◌≡◌, ◌≤◌}
use Rattle.fields_core.proofs.HouseLemmas.{cell-at}
use Rattle.fields_core.proofs.LightNumberVisits.{IsBeside, beside-word, black-visited, both_pieces, number-filled, number-house-of, number-short, pieces-apart}
use Rattle.fields_core.proofs.CellLemmas.{row-read}
use Rattle.fields_core.proofs.VisitLemmas.{visited-none}
use Rattle.fields_core.proofs.planes.light_up.visits.visit_number.Goals as goal
use Rattle.fields_core.proofs.planes.light_up.visits.visit_number.Goals.{After-cell, After-from-ones}

-- the place of the cell
place-is : (g : _) (c : After-cell g) → c.row_place-place.result ≡ c.args.y * c.args.puzzle.now.size.w + c.args.x
place-is g c =
    let size : c.size.result ≡ c.args.puzzle.now.size = c.size.ensures.value ∙ c.requires.size in
    let w_is : c.size.result.w ≡ c.args.puzzle.now.size.w = ap (λ (e : Extent). e.w) size in
    c.row_place-place.ensures.place
    ∙ rw (c.from.ensures, c.from-2.ensures)
    (sym (row-at c.size.result c.args.y c.args.x (rw w_is c.requires.x_in)) ∙ ap (λ (e : Extent). c.args.y * e.w + c.args.x) size)

module _ (g : _) (c : After-from-ones g) where
  abbrev p : Light
  p = c.args.puzzle.now

  are : ArePlanes g.W.Word.room c.args.planes.now
  are = c.size.ensures.lawful

  pub wide : p.size.w ≤ g.W.Word.room
  wide = rw (c.requires.size) at are.narrow

  pub tall : p.size.h ≤ g.W.Word.room
  tall = rw (c.requires.size) at are.low

  pub row : IsBeside p.size.w (λ k. white p (c.args.y * p.size.w + k)) c.args.x (g.W.Word.bits c.both-row.result)
  row = beside-word c.args.x _ _ _ (λ k. white p (c.args.y * p.size.w + k)) wide c.both-row.ensures
      (rw (c.from-in-Numbered.ensures) at c.word_beside.ensures)
      (rw (row-read g.W.Word.bits c.args.tables.now.rows.items c.args.y c.index.result.now (omega (arith, c.requires.y_in, c.requires.tables.rows.long, length-map c.args.tables.now.rows.items g.W.Word.bits)) (rw (c.from-in-Numbered-2.ensures) at c.index.ensures))
      at (c.requires.tables.rows.each c.args.y c.requires.y_in))

  pub column : IsBeside p.size.h (λ k. white p (k * p.size.w + c.args.x)) c.args.y (g.W.Word.bits c.both-column.result)
  column = beside-word c.args.y _ _ _ (λ k. white p (k * p.size.w + c.args.x)) tall c.both-column.ensures
      (rw (c.from-in-Numbered-3.ensures) at c.word_beside-in-Numbered.ensures)
      (rw (row-read g.W.Word.bits c.args.tables.now.columns.items c.args.x c.index-in-Numbered.result.now (omega (arith, c.requires.x_in, c.requires.tables.columns.long, length-map c.args.tables.now.columns.items g.W.Word.bits)) (rw (c.from-in-Numbered-4.ensures) at c.index-in-Numbered.ensures))
      at (c.requires.tables.columns.each c.args.x c.requires.x_in))

  pub numbered : c.row_place-place.result ≡ c.args.y * p.size.w + c.args.x → get_or p.cells (c.args.y * p.size.w + c.args.x) Black ≡ Numbered c.from-ones.result
  numbered place = ap (λ (k : ℕ). get_or p.cells k Black) (sym place) ∙ cell-at p c.row_place-place.result c.in-Numbered.ensures.value ∙ ap Numbered (sym c.from-ones.ensures)

pub visit-requires-clause-pieces : goal.visit-requires-clause-pieces
visit-requires-clause-pieces g c =
    let h = (goal.at.visit-requires-clause-pieces g c).After-from-ones in let p = c.args.puzzle.now in
    subst (λ (e : Extent). ArePieces e (both_pieces c.args.y c.args.x (g.W.Word.bits c.both-row.result) (g.W.Word.bits c.both-column.result))) (sym c.requires.size)
    (pieces-apart p.size _ _ c.requires.y_in c.requires.x_in (λ on _. true≢false (sym on ∙ ((row g h) c.args.x ∙ rw (ne_eqb c.args.x (c.args.x + 1) (λ e. absurd (omega arith))) refl))))

pub returns-in-White : goal.returns-in-White
returns-in-White g c =
    let h = (goal.at.returns-in-White g c).After-cell in
    rw (rw (place-is g h) at (cell-at c.args.puzzle.now _ c.in-White.ensures.value)) (visited-none c.requires.alive)

pub returns-in-Black : goal.returns-in-Black
returns-in-Black g c =
    let h = (goal.at.returns-in-Black g c).After-cell in
    black-visited c.args.puzzle.now _ (rw (place-is g h) at (cell-at c.args.puzzle.now _ c.in-Black.ensures.value)) c.requires.alive

pub returns-then-visit : goal.returns-then-visit
returns-then-visit g c =
    let h = (goal.at.returns-then-visit g c).After-from-ones in let p = c.args.puzzle.now in
    let of = number-house-of p c.cell.ensures.lawful c.args.y c.args.x _ _ c.requires.y_in c.requires.x_in (row g h) (column g h) _ (numbered g h (place-is g (goal.at.returns-then-visit g c).After-cell)) c.args.planes.now c.requires.size in
    rw (c.if-visit.true)
    (number-filled p c.cell.ensures.lawful c.args.y c.args.x _ _ c.requires.y_in c.requires.x_in (row g h) (column g h) _ (numbered g h (place-is g (goal.at.returns-then-visit g c).After-cell)) c.args.planes.now c.requires.size
    (c.visit.ensures.left c.if-visit.true _ of) c.visit.ensures.alive c.visit.ensures.further)

pub returns-else-visit : goal.returns-else-visit
returns-else-visit g c =
    let h = (goal.at.returns-else-visit g c).After-from-ones in let p = c.args.puzzle.now in
    let of = number-house-of p c.cell.ensures.lawful c.args.y c.args.x _ _ c.requires.y_in c.requires.x_in (row g h) (column g h) _ (numbered g h (place-is g (goal.at.returns-else-visit g c).After-cell)) c.args.planes.now c.requires.size in
    number-short p c.cell.ensures.lawful c.args.y c.args.x _ _ c.requires.y_in c.requires.x_in (row g h) (column g h) _ (numbered g h (place-is g (goal.at.returns-else-visit g c).After-cell)) c.args.planes.now c.requires.size
    _ (wide g h) (tall g h) c.either.ensures c.is_some.ensures
    (c.visit.ensures.broken c.if-visit.false _ of) (c.visit.ensures.unchanged c.if-visit.false) c.requires.alive
