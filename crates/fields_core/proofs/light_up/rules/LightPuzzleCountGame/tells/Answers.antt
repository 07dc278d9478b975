use Rattle.fields_core.proofs.Common.{begins_column_run, begins_row_run, column_run, eq-eqb, eqb, false, ne_eqb, one_at_most, refl, row_run, sym, true, white, ◌%◌, ◌/◌, ◌∙◌, ◌≡◌}
use Rattle.fields_core.proofs.KindLemmas.{told-if-so}
use Rattle.fields_core.proofs.light_up.rules.LightPuzzleCountGame.tells.Goals as goal

pub returns-then-place-w-eq0 : goal.returns-then-place-w-eq0
unfolding begins_row_run
returns-then-place-w-eq0 c =
    let p = c.args.self.now in let place = c.args.place in let wide = c.columns-w.ensures.value in
    let on : white p place ≡ true = sym c.is_white.ensures.value ∙ c.if-is_white.true in
    let first : eqb (place % p.size.w) 0 ≡ true = rw wide at (eq-eqb _ _ c.if-place-w-eq0.true) in
    rw c.in-Row.is (told-if-so (begins_row_run p place) (one_at_most (row_run p place)) (rw (wide, on, first) refl))

pub returns-else-place-w-eq0 : goal.returns-else-place-w-eq0
unfolding begins_row_run
returns-else-place-w-eq0 c =
    let p = c.args.self.now in let place = c.args.place in
    let on : white p place ≡ true = sym c.is_white.ensures.value ∙ c.if-is_white.true in
    let later : eqb (place % p.size.w) 0 ≡ false = rw c.columns-w.ensures.value at (ne_eqb _ _ c.if-place-w-eq0.false) in
    rw c.in-Row.is (told-if-so (begins_row_run p place) (one_at_most (row_run p place)) (rw (c.is_white-else-place-w-eq0.ensures.value, on, later) refl))

pub returns-else-is_white : goal.returns-else-is_white
unfolding begins_row_run
returns-else-is_white c =
    let p = c.args.self.now in let place = c.args.place in
    let off : white p place ≡ false = sym c.is_white.ensures.value ∙ c.if-is_white.false in
    rw c.in-Row.is (told-if-so (begins_row_run p place) (one_at_most (row_run p place)) (rw (c.is_white.ensures.value, off) refl))

pub returns-then-place-w-eq0-2 : goal.returns-then-place-w-eq0-2
unfolding begins_column_run
returns-then-place-w-eq0-2 c =
    let p = c.args.self.now in let place = c.args.place in let wide = c.columns-w.ensures.value in
    let on : white p place ≡ true = sym c.is_white-in-Column.ensures.value ∙ c.if-is_white-2.true in
    let first : eqb (place / p.size.w) 0 ≡ true = rw wide at (eq-eqb _ _ c.if-place-w-eq0-2.true) in
    rw c.in-Column.is (told-if-so (begins_column_run p place) (one_at_most (column_run p place)) (rw (wide, on, first) refl))

pub returns-else-place-w-eq0-2 : goal.returns-else-place-w-eq0-2
unfolding begins_column_run
returns-else-place-w-eq0-2 c =
    let p = c.args.self.now in let place = c.args.place in let wide = c.columns-w.ensures.value in
    let on : white p place ≡ true = sym c.is_white-in-Column.ensures.value ∙ c.if-is_white-2.true in
    let later : eqb (place / p.size.w) 0 ≡ false = rw wide at (ne_eqb _ _ c.if-place-w-eq0-2.false) in
    rw c.in-Column.is (told-if-so (begins_column_run p place) (one_at_most (column_run p place)) (rw (c.is_white-else-place-w-eq0-2.ensures.value, wide, on, later) refl))

pub returns-else-is_white-2 : goal.returns-else-is_white-2
unfolding begins_column_run
returns-else-is_white-2 c =
    let p = c.args.self.now in let place = c.args.place in
    let off : white p place ≡ false = sym c.is_white-in-Column.ensures.value ∙ c.if-is_white-2.false in
    rw c.in-Column.is (told-if-so (begins_column_run p place) (one_at_most (column_run p place)) (rw (c.is_white-in-Column.ensures.value, off) refl))
