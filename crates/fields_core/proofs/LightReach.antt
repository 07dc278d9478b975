-- Light Up: the rows of numbers and of white cells that wait.
use Rattle.fields_core.proofs.Common.{AreColumnsParted, AreIdleBut, AreParted, ArePlanesAlive, Bool, Candidates, Column, IsAway, IsLeast, IsLight, IsReach, IsRowOf, Layers, Light, Line, Row, Touched, ℕ, [], after_visits, and-false, and_from, any_below, any_below-none, ap, arith, at_line, cases_Bool, cases_lt, clear, common_steps, div-mul-add, eqb, false, false_from_ne_true, has_bit, has_place, houses_below, inl, inr, is_numbered, joined_in_column, joined_in_row, le-ltb, light_cells, line_len, lines_beside, lt-ltb, ltb, max, min, not, number_house, number_of, numbers_of_row, place-append, place-column, place-filter, place-in, refl, seen_from, sym, true, true≢false, white, ◌%◌, ◌&&◌, ◌*◌, ◌+◌, ◌/◌, ◌<◌, ◌∙◌, ◌≡◌, ◌≤◌, ◌⊎◌}
use Rattle.fields_core.proofs.VisitLemmas.{below-rows}
use Rattle.fields_core.proofs.CellLemmas.{has-at}
use Rattle.fields_core.proofs.LightRuleLemmas.{light-board, line-run-joined}
use Rattle.fields_core.proofs.IdleLemmas.{rest-off, rest-on}
use Rattle.fields_core.proofs.LightHouseLaws.{clear-at, clear-from, line-end, line-parts, white-in}
use Rattle.fields_core.proofs.BesideLemmas.{row-in}
use Rattle.fields_core.specs.declared.planes.light_up.waits.RunKind.TheVariants.{Columns, Rows}

-- The numbers of a row of Light Up: those that wait, by a word of its numbered cells.

-- ---- numbers that have no house
-- a cell without a number has no house
bare : (p : Light) (c : ℕ) → is_numbered p c ≡ false → number_house p c ≡ []
unfolding is_numbered
bare p c off = grind (arith, common_steps)

-- none of the cells of a row that have no number waits
pub numbers-all : (p : Light) (y word : ℕ) (K : Candidates) → IsRowOf p.size.w (is_numbered p) y word → AreIdleBut p word y K
unfolding after_visits
numbers-all p y _ K row x lt off = rw (bare p (y * p.size.w + x) (rw (lt-ltb _ _ lt) at (sym (row x) ∙ off))) refl

-- numbers in some columns wait
pub numbers-both : (p : Light) (y own columns both : ℕ) (K : Candidates) → IsRowOf p.size.w (is_numbered p) y own → AreIdleBut p columns y K
    → ((k : ℕ) → has_bit both k ≡ (has_bit own k && has_bit columns k)) → AreIdleBut p both y K
numbers-both p y own columns both K row others is x lt off = grind (arith, common_steps, cases_Bool, numbers-all)

-- ---- the numbers of all rows
pub numbers-are : (p : Light) → houses_below (numbers_of_row p) p.size.h ≡ houses_below (number_house p) (light_cells p)
numbers-are p = below-rows (number_house p) p.size.w p.size.h
    ∙ ap (houses_below (number_house p)) (let e : p.size.h * p.size.w ≡ p.size.w * p.size.h = omega arith in e)

-- The rows of the white cells of Light Up that wait.

-- ---- the highest place
-- of the places the last is above none but those that are left
pub record IsLast (places rest : ℕ → Bool) (room last : ℕ) : Type 0 where
  pub has : places last ≡ true
  pub below : (k : ℕ) → k < room → places k ≡ true → (k ≤ last) ⊎ (rest k ≡ true)
  pub above : (k : ℕ) → rest k ≡ true → (last < k) × (places k ≡ true)

pub last-next : {places rest left : ℕ → Bool} {room next : ℕ} → IsLeast rest room next → ((k : ℕ) → rest k ≡ true → places k ≡ true)
    → ((k : ℕ) → k < room → places k ≡ true → (k < next) ⊎ (rest k ≡ true)) → ((k : ℕ) → left k ≡ (rest k && not (eqb k next)))
    → IsLast places left room next
last-next {places} {rest} {left} {room} {next} least within others is = grind (arith, common_steps, cases_lt, cases_Bool, rest-off, rest-on)

pub last-more : {places rest left : ℕ → Bool} {room last next : ℕ} → IsLast places rest room last → IsLeast rest room next
    → ((k : ℕ) → left k ≡ (rest k && not (eqb k next))) → IsLast places left room next
last-more {next = next} is least without = grind (arith, common_steps, last-next)

pub last-done : {places rest : ℕ → Bool} {room last : ℕ} → IsLast places rest room last → any_below rest room ≡ false
    → (k : ℕ) → k < room → places k ≡ true → k ≤ last
last-done {rest = rest} {room = room} is none k lt on = elim (is.below k lt on) [
  | inl low ↦ low
  | inr there ↦ absurd (true≢false (sym there ∙ any_below-none rest room none k lt))
]

-- none is below the least
pub between : {places : ℕ → Bool} {room least : ℕ} → IsLeast places room least → (k : ℕ) → places k ≡ true → least ≤ k
between {least = least} is k on = grind (arith, common_steps, cases_lt)

-- ---- columns that are white from one row on and before another
abbrev pub AreWhite : Light → ℕ → ℕ → ℕ → Type 0
AreWhite p x from end = (i : ℕ) → from ≤ i → i < end → white p (i * p.size.w + x) ≡ true

-- these are among them, of those columns
abbrev pub IsLive : Light → ℕ → ℕ → ℕ → ℕ → Type 0
IsLive p columns from end live = (x : ℕ) → x < p.size.w → has_bit columns x ≡ true → AreWhite p x from end → has_bit live x ≡ true

pub live-first : (p : Light) (columns : ℕ) {y : ℕ} (whites live : ℕ) → IsRowOf p.size.w (white p) y whites → ((x : ℕ) → has_bit live x ≡ (has_bit columns x && has_bit whites x))
    → IsLive p columns y (y + 1) live
live-first p columns {y} _ live row is x lt on all = is x ∙ and_from _ _ on (row x ∙ and_from _ _ (lt-ltb _ _ lt) (all y (omega arith) (omega arith)))

pub live-more : (p : Light) (columns : ℕ) {from end y : ℕ} (first last whites before live : ℕ) → IsRowOf p.size.w (white p) y whites
    → ((x : ℕ) → has_bit live x ≡ (has_bit before x && has_bit whites x)) → first ≤ from → end ≤ last → first ≤ y → y < last
    → IsLive p columns from end before → IsLive p columns first last live
live-more p _ {y} first last _ _ live row is low high at below live_before x lt on all = grind (arith, common_steps, and_from, lt-ltb)

-- where none is, a row at or before the first is parted from one at or behind the last
pub live-parted : (p : Light) (columns : ℕ) {from end : ℕ} (live : ℕ) {room x : ℕ} (y k : ℕ) → IsLive p columns from end live → any_below (has_bit live) room ≡ false
    → p.size.w ≤ room → x < p.size.w → has_bit columns x ≡ true → min y k ≤ from → end ≤ max y k + 1 → AreParted p x y k
live-parted p _ live {room} {x} y k alive none narrow lt on low high = false_from_ne_true _ (λ joined.
    true≢false (sym (alive x lt on (λ i le less. clear-at (λ j. white p (j * p.size.w + x)) y k i joined (omega (arith, low, le)) (omega (arith, high, less))))
    ∙ any_below-none (has_bit live) room none x (omega (arith, lt, narrow))))

-- ---- cells that are away from lines
-- those that a white cell sees are of its row, or joined to it in its column
seen-parts : (p : Light) (c d : ℕ) → has_place (seen_from p c) d ≡ true → (joined_in_row p c d ≡ true) ⊎ (joined_in_column p c d ≡ true)
unfolding seen_from
seen-parts p c d on = grind (arith, common_steps, place-append, line-run-joined p Rows, line-run-joined p Columns, place-filter)

module _ {W : Type 0} (bits : W → ℕ) (p : Light) (lines : Touched W) (lawful : IsLight p) where
  pub away-from : {y x : ℕ} → y < p.size.h → x < p.size.w → (has_bit (bits lines.rows) y ≡ true → ⊥)
      → ((k : ℕ) → k < p.size.h → has_bit (bits lines.rows) k ≡ true → has_bit (bits lines.columns) x ≡ true
      → clear (λ j. white p (j * p.size.w + x)) y k ≡ true → ⊥)
      → IsAway bits p lines (y * p.size.w + x)
  away-from {y} {x} y_in lt no_row no_column d there at = elim (seen-parts p (y * p.size.w + x) d there) [
    | inl row ↦
        let e : y ≡ d / p.size.w = sym (div-mul-add y p.size.w x lt) ∙ (line-parts p Rows (y * p.size.w + x) d row).0 in
        no_row (rw e at.1)
    | inr column ↦
        let parts = line-parts p Columns (y * p.size.w + x) d column in let board = light-board lawful in
        let e : x ≡ d % p.size.w = sym (place-column p.size.w y x lt) ∙ parts.0 in
        let inside = white-in p d board.long (line-end p Columns (y * p.size.w + x) d column) in
        no_column (d / p.size.w) (row-in p.size.h d board.some inside) at.1 (rw e at.0)
        (rw (div-mul-add y p.size.w x lt, place-column p.size.w y x lt) at parts.1)
  ]

  -- no row of the grid is one of them
  pub reach-none : (rows : ℕ → Bool) {room : ℕ} → p.size.h ≤ room → ((k : ℕ) → k < p.size.h → has_bit (bits lines.rows) k ≡ true → rows k ≡ true)
      → any_below rows room ≡ false → IsReach bits p lines 0 0
  reach-none rows {room} low is none = record {
    order = omega arith;
    within = omega arith;
    away = λ y x y_in lt out. away-from y_in lt (never y y_in) (λ k k_in on _ _. never k k_in on);
  }
    where
      never : (k : ℕ) → k < p.size.h → has_bit (bits lines.rows) k ≡ true → ⊥
      never k k_in on = true≢false (sym (is k k_in on) ∙ any_below-none rows room none k (omega (arith, k_in, low)))

  -- from the lowest of them to the highest, and further as far as columns are not parted
  pub reach-from : {first low high end : ℕ} → first ≤ low → high < end → end ≤ p.size.h → low ≤ high
      → ((k : ℕ) → k < p.size.h → has_bit (bits lines.rows) k ≡ true → (low ≤ k) × (k ≤ high))
      → ((y : ℕ) → y < first → AreColumnsParted p (bits lines.columns) y low)
      → ((y : ℕ) → end ≤ y → y < p.size.h → AreColumnsParted p (bits lines.columns) y high)
      → IsReach bits p lines first end
  reach-from {first} {low} {high} {end} up down within order between above below = record {
    order = omega arith;
    within = within;
    away = λ y x y_in lt out. away-from y_in lt (λ on. off y out (between y y_in on)) (λ k k_in on column joined. parted y x y_in lt k out (between k k_in on) column joined);
  }
    where
      off : (y : ℕ) → (y < first) ⊎ (end ≤ y) → (low ≤ y) × (y ≤ high) → ⊥
      off y (inl less) at = absurd (omega (arith, less, at, up))
      off y (inr more) at = absurd (omega (arith, more, at, down))

      part : (x y k i : ℕ) → clear (λ j. white p (j * p.size.w + x)) y k ≡ true → min y k ≤ i → i ≤ max y k → clear (λ j. white p (j * p.size.w + x)) y i ≡ true
      part x y k i joined le less = clear-from _ y i (λ m a b. clear-at _ y k m joined (omega arith) (omega arith))

      parted : (y x : ℕ) → y < p.size.h → x < p.size.w → (k : ℕ) → (y < first) ⊎ (end ≤ y) → (low ≤ k) × (k ≤ high) → has_bit (bits lines.columns) x ≡ true
          → clear (λ j. white p (j * p.size.w + x)) y k ≡ true → ⊥
      parted y x y_in lt k (inl less) at column joined =
          true≢false (sym (part x y k low joined (omega (arith, less, up)) (omega (arith, at))) ∙ above y less x lt column)
      parted y x y_in lt k (inr more) at column joined =
          true≢false (sym (part x y k high joined (omega (arith, at)) (omega (arith, more, down))) ∙ below y more y_in x lt column)

-- ---- where each cell has a value, those of a line that must be 1 are those that can not be 0
line-one : (planes : Layers) (line : Line) (k : ℕ) → number_of line < lines_beside planes.size line → k < line_len planes.size line → ArePlanesAlive planes
    → at_line planes line 0 k ≡ false → at_line planes line 1 k ≡ true
line-one planes (Row y) k y_in lt alive off = elim (alive (y * planes.size.w + k) (place-in planes.size.w planes.size.h y k y_in lt)) [
  | inl on ↦ absurd (true≢false (sym on ∙ has-at planes y k 0 refl lt (omega arith) ∙ off))
  | inr on ↦ sym (has-at planes y k 1 refl lt (omega arith)) ∙ on
]
line-one planes (Column x) k x_in lt alive off = elim (alive (k * planes.size.w + x) (place-in planes.size.w planes.size.h k x lt x_in)) [
  | inl on ↦ absurd (true≢false (sym on ∙ has-at planes k x 0 refl x_in (omega arith) ∙ off))
  | inr on ↦ sym (has-at planes k x 1 refl x_in (omega arith)) ∙ on
]

pub line-must : (planes : Layers) (line : Line) (k : ℕ) → number_of line < lines_beside planes.size line → ArePlanesAlive planes
    → (at_line planes line 1 k ≡ true → k < line_len planes.size line)
    → (at_line planes line 1 k && not (at_line planes line 0 k)) ≡ (ltb k (line_len planes.size line) && not (at_line planes line 0 k))
line-must planes line k line_in alive within = grind (arith, common_steps, cases_Bool, and-false, cases_lt, line-one, lt-ltb, false_from_ne_true, le-ltb)
