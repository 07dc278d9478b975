-- Which lines wait: those that have a place, and after a visit.
use Rattle.pattern_core.proofs.Common.{AreLinesRested, AreLinesWithin, Bool, Candidates, Column, Extent, IsAlive, IsClosedBut, IsExtent, IsIdle, IsNext, IsStart, IsWoken, Line, List, None, Option, Pattern, Row, Some, LinesWaiting, alive_but, and_from, and_parts, any_below, any_below-here, any_below-none, any_below-some, ap, arith, but, calls, cases_Bool, cases_eq, cases_lt, column_has, common_steps, counts_of, crossed_by, div-add-mod', div-mul-add, eq-eqb, eqb, eqb-true, false, false_from_ne_true, false≢true, has_bit, has_lost, has_place, line_house, inl, inr, is_marked, is_same, le-ltb, length, length-line_places, line_len, line_of, line_places, line_rules, line_rules-alive, line_rules-lawful, lines_beside, lines_of, lines_with, lt-ltb, ltb-true, mod-lt, mod-mul-add, mul-le-mul_right, ne_eqb, not, number_of, or_cases, or_left, or_parts, or_right, place-in, refl, rested_around, row_has, sym, true, true≢false, waiting, woken, ℕ, ◌%◌, ◌&&◌, ◌*◌, ◌+◌, ◌-◌, ◌/◌, ◌<◌, ◌||◌, ◌∙◌, ◌≡◌, ◌≤◌, ◌⊎◌}
use Rattle.pattern_core.proofs.LineTakings.{cell-at, cell_of, line-long}

module _ (size : Extent) {w place : ℕ} (from : ℕ) (same : w ≡ size.w) (within : place < size.w * size.h) where
  x_low : place % w < size.w
  x_low = grind (arith, common_steps, cases_Bool, mod-lt)

  cell : (place / w) * size.w + place % w ≡ place
  cell = ap (λ v. (place / w) * v + place % w) (sym same) ∙ div-add-mod' place w

  y_low : place / w < size.h
  y_low = grind (arith, common_steps, cases_Bool, cases_lt, cell, mul-le-mul_right)

  in_column : has_place (line_places size (place % w)) place ≡ true
  in_column = ap (has_place (line_places size (place % w))) (sym cell) ∙ column_has size x_low y_low

  in_row : has_place (line_places size (size.w + place / w)) place ≡ true
  in_row = ap (has_place (line_places size (size.w + place / w))) (sym cell) ∙ row_has size x_low y_low

  no_other : (line : ℕ) → has_place (line_places size line) place ≡ true → (line ≡ place % w) ⊎ (line ≡ size.w + place / w)
  no_other line on = rw same (lines_with size place line on)

  not_between : (line : ℕ) → (line ≡ place % w → ⊥) → (line ≡ size.w + place / w → ⊥) → has_place (line_places size line) place ≡ false
  not_between line a b = false_from_ne_true (has_place (line_places size line) place) (λ on. elim (no_other line on) [ inl e ↦ a e | inr e ↦ b e ])

  pub next_column : from ≤ place % w → IsNext (λ h. has_place (line_places size h) place) (lines_of size) from (Some (place % w))
  next_column low = grind (arith, common_steps, cases_Bool, in_column, not_between, x_low)

  pub next_row : place % w < from → from ≤ w + place / w → IsNext (λ h. has_place (line_places size h) place) (lines_of size) from (Some (w + place / w))
  next_row past low = grind (arith, common_steps, cases_Bool, in_row, not_between, y_low)

  pub next_none : place % w < from → w + place / w < from → IsNext (λ h. has_place (line_places size h) place) (lines_of size) from None
  next_none past later = λ j ge lt. not_between j (λ e. absurd (omega arith)) (λ e. absurd (omega arith))

  pub its_lines : (line : ℕ) → (eqb line (place % w) || eqb line (w + place / w)) ≡ has_place (line_places size line) place
  its_lines line = grind (arith, common_steps, cases_Bool, eq-eqb, in_column, in_row, ne_eqb, no_other, or_left, or_right, true≢false)

-- no line waits, where no column and no row does
pub none-marked : {W : Type 0} (room : ℕ) (bits : W → ℕ) (waits : LinesWaiting W) (line : Line) → any_below (has_bit (bits waits.columns)) room ≡ false
    → any_below (has_bit (bits waits.rows)) room ≡ false → number_of line < room → is_marked bits waits line ≡ false
none-marked room bits waits (Row y) columns rows lt = any_below-none (has_bit (bits waits.rows)) room rows y lt
none-marked room bits waits (Column x) columns rows lt = any_below-none (has_bit (bits waits.columns)) room columns x lt

-- ---- lines by their numbers as houses
pub house-of-line : (size : Extent) (j : ℕ) → line_house size (line_of size j) ≡ j
house-of-line size j = grind (arith, common_steps, cases_lt j size.w, lt-ltb j size.w, le-ltb j size.w)

pub line-of-house : (size : Extent) (line : Line) → number_of line < lines_beside size line → line_of size (line_house size line) ≡ line
line-of-house size (Column x) lt = rw (lt-ltb _ _ lt) refl
line-of-house size (Row y) lt = let e : (size.w + y) - size.w ≡ y = omega arith in rw (le-ltb (size.w + y) size.w (omega arith), e) refl

pub line-in : (size : Extent) (j : ℕ) → j < lines_of size → number_of (line_of size j) < lines_beside size (line_of size j)
line-in size j lt = grind (arith, common_steps, cases_lt j size.w, lt-ltb j size.w, le-ltb j size.w)

pub same-house : (size : Extent) (line : Line) (j : ℕ) → number_of line < lines_beside size line → is_same line (line_of size j) ≡ eqb j (line_house size line)
same-house size (Column x) j lt = grind (arith, common_steps, cases_lt j size.w, lt-ltb j size.w, le-ltb j size.w, cases_eq j x, eq-eqb, ne_eqb)
same-house size (Row y) j lt = grind (arith, common_steps, cases_lt j size.w, lt-ltb j size.w, le-ltb j size.w, cases_eq j (size.w + y), cases_eq (j - size.w) y, eq-eqb, ne_eqb)

-- the same line
is-same : (line other : Line) → is_same line other ≡ true → other ≡ line
is-same = grind (arith, common_steps, eqb-true, false≢true)

same-number : (size : Extent) (line other : Line) → number_of line < lines_beside size line → number_of other < lines_beside size other
    → line_house size other ≡ line_house size line → is_same line other ≡ true
same-number = grind (arith, common_steps, eq-eqb)

-- ---- what waits at the start
-- of the first n lines those without a mark strike nothing, and no other has one
pub record AreWeighed {W : Type 0} (bits : W → ℕ) (p : Pattern) (waits : LinesWaiting W) (n : ℕ) : Type 0 where
  pub idle : (line : Line) → number_of line < lines_beside p.size line → line_house p.size line < n → is_marked bits waits line ≡ false
      → IsIdle (line_rules p) (line_house p.size line) (line_rules p).start
  pub within : (line : Line) → is_marked bits waits line ≡ true → (number_of line < lines_beside p.size line) × (line_house p.size line < n)

pub weighed-more : {W : Type 0} {bits : W → ℕ} {p : Pattern} {waits : LinesWaiting W} (waits' : LinesWaiting W) (line : Line) (on : Bool) {n : ℕ} → number_of line < lines_beside p.size line
    → line_house p.size line ≡ n → ((other : Line) → is_marked bits waits' other ≡ (is_marked bits waits other || (on && is_same line other)))
    → (on ≡ false → IsIdle (line_rules p) n (line_rules p).start) → AreWeighed bits p waits n → AreWeighed bits p waits' (n + 1)
weighed-more {bits} {p} {waits} waits' line on {n} lt is marks idle are = record {
  idle = grind (arith, common_steps, or_parts, cases_eq, same-number, cases_Bool, p.size, are.idle);
  within = grind (arith, common_steps, or_cases, is-same, and_parts, are.within);
}

pub weighed-all : {W : Type 0} {bits : W → ℕ} {p : Pattern} {waits : LinesWaiting W} {n : ℕ} → n ≡ lines_of p.size → AreWeighed bits p waits n → IsStart bits p waits
unfolding waiting
weighed-all {p} all are = (
  λ h c v lt off on.
      let line = line_of p.size h in let e = house-of-line p.size h in
      rw e at (are.idle line (line-in p.size h lt) (rw e (omega (arith, all))) off c v on),
  λ line on. (are.within line on).0,
)

-- ---- what waits for a place
place-at : {W : Type 0} (bits : W → ℕ) (size : Extent) (waits : LinesWaiting W) {w : ℕ} (place j : ℕ) → w ≡ size.w
    → ((line : Line) → is_marked bits waits line ≡ (is_same (Column (place % w)) line || is_same (Row (place / w)) line))
    → place % w < size.w → waiting bits size waits j ≡ (eqb j (place % w) || eqb j (w + place / w))
unfolding waiting
place-at bits size waits {w} place j same marks low = grind (arith, common_steps, cases_lt, lt-ltb, cases_Bool, ne_eqb, le-ltb, cases_eq, eq-eqb)

pub place-rested : {W : Type 0} (bits : W → ℕ) (p : Pattern) (K : Candidates) (waits : LinesWaiting W) {w place : ℕ} → IsExtent p.size → w ≡ p.size.w
    → ((line : Line) → is_marked bits waits line ≡ (is_same (Column (place % w)) line || is_same (Row (place / w)) line))
    → place < p.size.w * p.size.h → place % w < p.size.w → IsClosedBut (line_rules p) K (Some place) → AreLinesRested bits p K waits
place-rested bits p K waits {w} {place} extent same marks within low closed =
    rested_around (line_rules-lawful p extent) place {none = λ j. false} (λ j lt. refl)
    (record { marks = λ j lt. place-at bits p.size waits place j same marks low ∙ its_lines p.size 0 same within j }) closed

pub place-first : {W : Type 0} (bits : W → ℕ) (p : Pattern) (K : Candidates) (none one both : LinesWaiting W) {w : ℕ} (place : ℕ) {x y : ℕ} → IsExtent p.size → w ≡ p.size.w
    → x ≡ place % w → y ≡ place / w → ((line : Line) → is_marked bits none line ≡ false)
    → ((line : Line) → is_marked bits one line ≡ (is_marked bits none line || is_same (Column x) line))
    → ((line : Line) → is_marked bits both line ≡ (is_marked bits one line || is_same (Row y) line))
    → x < w → IsClosedBut (line_rules p) K (Some place) → AreLinesRested bits p K both
place-first bits p K none one both {w} place {x} {y} extent same ex ey off first second low closed =
    place-rested bits p K both extent same (λ line.
    rw (← ex, ← ey) (second line ∙ ap (λ b. b || is_same (Row y) line) (first line ∙ ap (λ b. b || is_same (Column x) line) (off line))))
    (closed.within place closed.value closed.had).0 (omega (arith, low, ex, same)) closed

-- ---- a line's mark, by its number as a house
pub waits-line : {W : Type 0} (bits : W → ℕ) (size : Extent) (waits : LinesWaiting W) (line : Line) → number_of line < lines_beside size line
    → waiting bits size waits (line_house size line) ≡ is_marked bits waits line
unfolding waiting
waits-line bits size waits line lt = ap (is_marked bits waits) (line-of-house size line lt)

pub none-waits : {W : Type 0} (bits : W → ℕ) (size : Extent) (waits : LinesWaiting W) {room : ℕ} → size.w ≤ room → size.h ≤ room
    → ((line : Line) → number_of line < room → is_marked bits waits line ≡ false) → (h : ℕ) → h < lines_of size → waiting bits size waits h ≡ false
unfolding waiting
none-waits bits size waits {room} narrow low none h lt = grind (arith, common_steps, line-in)

-- the number as a house of the line that crosses a line at its k-th cell
abbrev cross_of : Extent → Line → ℕ → ℕ
cross_of size (Column x) k = size.w + k
cross_of size (Row y) k = k

module _ (size : Extent) (line : Line) (lt : number_of line < lines_beside size line) where
  crossed-here : (lost : ℕ) {k : ℕ} → k < line_len size line → crossed_by line lost (line_of size (cross_of size line k)) ≡ has_bit lost k
  crossed-here lost {k} less = grind (arith, common_steps, le-ltb, lt-ltb)

  crossed-some : (lost j : ℕ) → crossed_by line lost (line_of size j) ≡ true → (k : ℕ) × (j ≡ cross_of size line k) × (has_bit lost k ≡ true)
  crossed-some lost j on = grind (arith, common_steps, cases_lt, false≢true, lt-ltb, le-ltb)

  cross-other : {k : ℕ} → k < line_len size line → eqb (cross_of size line k) (line_house size line) ≡ false
  cross-other {k} less = grind (arith, common_steps, eqb, ne_eqb)

  -- a cell of the line lies in the line and in the one that crosses it there
  placed : (j k : ℕ) → k < line_len size line → has_place (line_places size j) (cell_of size line k) ≡ (eqb j (line_house size line) || eqb j (cross_of size line k))
  placed j k less = go line lt less
    where
      go : (line : Line) → number_of line < lines_beside size line → k < line_len size line
          → has_place (line_places size j) (cell_of size line k) ≡ (eqb j (line_house size line) || eqb j (cross_of size line k))
      go (Column x) lt less =
          sym (its_lines size 0 refl (place-in size.w size.h k x less lt) j) ∙ rw (mod-mul-add k size.w x lt, div-mul-add k size.w x lt) refl
      go (Row y) lt less =
          sym (its_lines size 0 refl (place-in size.w size.h y k lt less) j) ∙ rw (mod-mul-add y size.w k less, div-mul-add y size.w k less)
          (grind (arith, common_steps, cases_Bool (eqb j k), cases_Bool (eqb j (size.w + y))))

-- ---- what waits after a visit
module _ (p : Pattern) (line : Line) (lt : number_of line < lines_beside p.size line) (K K' : Candidates) (lost : ℕ)
    (is : (k : ℕ) → has_bit lost k ≡ has_lost (line_rules p) (line_house p.size line) K K' k) where
  abbrev house : ℕ
  house = line_house p.size line

  abbrev places : List ℕ
  places = line_places p.size house

  abbrev called : ℕ → ℕ → Bool
  called j = calls (line_rules p) house (counts_of (line_rules p) house K) K' j

  long : length places ≡ line_len p.size line
  long = length-line_places p.size house ∙ line-long p.size line lt

  -- a house is called for by a cell that lost a value and lies in it
  called-is : (j : ℕ) {k : ℕ} → k < length places → called j k ≡ (has_bit lost k && (eqb j house || eqb j (cross_of p.size line k)))
  unfolding has_lost
  called-is j {k} less = grind (arith, common_steps, long, cell-at, eqb, lt-ltb, placed)

  called-at : {j k : ℕ} → k < length places → has_bit lost k ≡ true → j ≡ cross_of p.size line k → called j k ≡ true
  called-at {j} {k} less on e = called-is j less ∙ rw (on, eq-eqb _ _ e) (or_right (eqb j house) true refl)

  lost-in : (k : ℕ) → has_bit lost k ≡ true → k < length places
  unfolding has_lost
  lost-in k on = ltb-true _ _ (and_parts _ _ (sym (is k) ∙ on)).0

  -- so the lines that wait are those that cross the line where a cell lost a value
  crossed-called : (j : ℕ) → crossed_by line lost (line_of p.size j) ≡ (any_below (called j) (length places) && not (eqb j house))
  crossed-called j = elim (cases_Bool (crossed_by line lost (line_of p.size j))) [
    | inl on ↦ (
        let w = crossed-some p.size line lt lost j on in let less = lost-in w.0 w.2 in
        let lk : w.0 < line_len p.size line = omega (arith, long) in
        let other = ap (λ i. eqb i house) w.1 ∙ cross-other p.size line lt lk in
        on ∙ sym (and_from _ _ (any_below-here (called j) (length places) w.0 less (called-at less w.2 w.1)) (ap not other)))
    | inr off ↦ grind (arith, common_steps, any_below-some, long, called-is, crossed-here)
  ]

  module _ {W : Type 0} (bits : W → ℕ) (waits now : LinesWaiting W)
      (marks : (other : Line) → is_marked bits now other ≡ ((is_marked bits waits other && not (is_same line other)) || crossed_by line lost other)) where
    pub lines-woken : IsWoken (line_rules p) house K K' (waiting bits p.size waits) (waiting bits p.size now)
    unfolding waiting woken but
    lines-woken = record { marks = λ j less. marks (line_of p.size j) ∙ rw (same-house p.size line j lt, crossed-called j) refl }

    pub lines-within : AreLinesWithin bits p.size waits → AreLinesWithin bits p.size now
    lines-within within other on = elim (or_cases _ _ (sym (marks other) ∙ on)) [
      | inl old ↦ within other (and_parts _ _ old).0
      | inr new ↦ go line other long lost-in new
    ]
      where
        go : (line other : Line) → length places ≡ line_len p.size line → ((k : ℕ) → has_bit lost k ≡ true → k < length places)
            → crossed_by line lost other ≡ true → number_of other < lines_beside p.size other
        go (Column x) (Column z) long lost-in new = absurd (false≢true new)
        go (Column x) (Row y) long lost-in new = omega (arith, long, lost-in y new)
        go (Row y) (Column x) long lost-in new = omega (arith, long, lost-in x new)
        go (Row y) (Row z) long lost-in new = absurd (false≢true new)

-- ---- where a closing begins
pub begins-alive : (p : Pattern) (K : Candidates) (from : Option ℕ) → IsClosedBut (line_rules p) K from → IsAlive (line_rules p) K
begins-alive p K None closed = rw closed (line_rules-alive p)
begins-alive p K (Some place) closed = alive_but (line_rules p) K (Some place) refl closed
