-- Light Up: what waits, and sweeps of its houses on planes.
use Rattle.fields_core.proofs.Common.{AllByRecursion, AreIdle, AreIdleBut, AreLightsReady, AreLinesOf, AreLightsRested, AreLightsWoken, ArePlanesAlive, ArePlanesOf, AreSafe, AreVisited, Black, Bool, Candidates, CountHouse, HasBoard, IsAway, IsClosed, IsClosedAround, IsFurther, IsInside, IsLight, IsLostIn, IsReach, IsSweep, Layers, Light, LightCell, List, Numbered, RunKind, Touched, White, ℕ, after_visits, any_below, any_below-none, ap, append_assoc, arith, back_at, cases_Bool, cases_eq, column_house, common_steps, div-mul-add, eqb, eqb-true, exactly, false, false_from_ne_true, filter, get_or, planes_have, has_bit, has_place, houses_below, inl, inr, joined_in_column, joined_in_row, light_cells, light_counts, light_houses, light_rules, lit_house, lits_of_row, mod-lt, ne_eqb, not, number_house, numbers_of_row, one_at_least, or_left, or_parts, or_right, place-back, place-column, place-filter, place-front, place-in, place-kept, refl, row_house, row_run, row_runs_of_row, run_houses, run_lines, seen_from, solves_lights, steps, suc, sym, true, true≢false, waiting_runs, white, white_houses, zero, ◌%◌, ◌&&◌, ◌*◌, ◌++◌, ◌+◌, ◌/◌, ◌<◌, ◌||◌, ◌∙◌, ◌≡◌, ◌≤◌, ◌⊎◌}
use Rattle.fields_core.specs.declared.planes.light_up.waits.LightWaits.{LightWaits}
use Rattle.fields_core.specs.declared.planes.light_up.waits.RunKind.TheVariants.{Columns, Rows}
unfoldable use Rattle.fields_core.proofs.IdleLemmas.{any_has}
use Rattle.fields_core.proofs.IdleLemmas.{IsPartOf, any-below, any-none, any-one, below-idle, closed-idle, idle-far, idle-one, in-back, in-below, in-front}
use Rattle.fields_core.proofs.VisitLemmas.{IsBinaryAlive, below-rows}
use Rattle.fields_core.proofs.AtLeastLemmas.{IsAll, alls-kept, alls-ones, safe-stay}
use Rattle.fields_core.proofs.LightRuleLemmas.{in-column-run, in-row-run, light-board}
use Rattle.fields_core.proofs.LightHouseLaws.{line-end, line-self, white-in}
use Rattle.fields_core.proofs.LightLitVisits.{lit-is}
use Rattle.fields_core.proofs.LightReach.{numbers-are}
use Rattle.fields_core.proofs.LightRunOrder.{column-runs-of, line-kept, line-single, row-runs-are, row-runs-of}
use Rattle.fields_core.proofs.BesideLemmas.{IsNextTo, row-in, step-across, step-lies, steps-some}
use Rattle.fields_core.proofs.PlaneSweeps.{around-inside, around-lost, back-whole, cells-alive, full-before, spread-off, value-kept, visits-swept}
use Rattle.fields_core.proofs.PartLemmas.{value-in}
use Rattle.fields_core.specs.declared.planes.light_up.light_notes.LightNotes.{LightNotes}
use Rattle.fields_core.proofs.HouseOrder.{IsSingle, alls-quiet, quiet-done, quiet-one, quiet-stays, singles-quiet}
use Rattle.fields_core.proofs.HouseLemmas.{all-houses, all-if}
use Rattle.fields_core.proofs.CellLemmas.{first-off}

-- What waits of Light Up: where numbers and runs lie, what stays idle, white cells too, and what is idle where a closing begins.
module _ (p : Light) (lawful : IsLight p) (c : ℕ) (is_white : white p c ≡ true) where
  some : 0 < p.size.w
  some = (light-board lawful).some

  inside : c < light_cells p
  inside = white-in p c (light-board lawful).long is_white

  -- ---- the cells of both runs are those of the house
  pub seen-in-row : (d : ℕ) → joined_in_row p c d ≡ true → has_place (seen_from p c) d ≡ true
  unfolding seen_from
  seen-in-row d joined = place-front (row_run p c) _ d (in-row-run p c d some joined)

  pub seen-in-column : (d : ℕ) → joined_in_column p c d ≡ true → has_place (seen_from p c) d ≡ true
  unfolding seen_from
  seen-in-column d joined = grind (arith, common_steps, cases_eq, place-front, in-row-run, line-self p Rows, white-in, light-board, line-end p Columns, place-back, place-kept, in-column-run, ne_eqb)

-- ---- a run with two cells that can have a bulb, or one that must, leaves the houses of its cells idle
run-safe : {p : Light} (c : ℕ) {K : Candidates} {joined : ℕ → Bool} → IsLight p → IsBinaryAlive (light_cells p) K
    → (white p c ≡ true → (d : ℕ) → joined d ≡ true → has_place (seen_from p c) d ≡ true) → AreSafe joined K → AreIdle (lit_house p c) K
unfolding after_visits
run-safe {p} c {K} lawful full seen safe = elim (cases_Bool (white p c)) [
  | inl on ↦ rw on (safe-stay K (lit-is lawful (inside p lawful c on) on) full safe.one safe.other (seen on safe.one safe.one_in)
      (seen on safe.other safe.other_in) safe.one_on safe.other_on safe.apart)
  | inr off ↦ rw off refl
]

pub row-safe : {p : Light} (c : ℕ) {K : Candidates} → IsLight p → IsBinaryAlive (light_cells p) K → AreSafe (joined_in_row p c) K → AreIdle (lit_house p c) K
row-safe {p} c lawful full = run-safe c lawful full (seen-in-row p lawful c)

pub column-safe : {p : Light} (c : ℕ) {K : Candidates} → IsLight p → IsBinaryAlive (light_cells p) K → AreSafe (joined_in_column p c) K → AreIdle (lit_house p c) K
column-safe {p} c lawful full = run-safe c lawful full (seen-in-column p lawful c)

-- a black cell has no house
pub black-idle : (p : Light) (c : ℕ) (K : Candidates) → white p c ≡ false → AreIdle (lit_house p c) K
unfolding after_visits
black-idle p c K off = rw off refl

-- ---- on planes
pub planes-full : (p : Light) (from : Layers) → from.size ≡ p.size → ArePlanesAlive from → IsBinaryAlive (light_cells p) (planes_have from)
planes-full p from size alive = record { low = value-in from; some = λ c lt. alive c (rw size lt) }

-- ---- where houses lie
number-lies : (p : Light) (c y : ℕ) {x : ℕ} → x < p.size.w → any_has (number_house p (y * p.size.w + x)) c ≡ true
    → IsNextTo (c / p.size.w) y × IsNextTo (c % p.size.w) x
number-lies p c y {x} lt on = by (get_or p.cells (y * p.size.w + x) Black) refl
  where
    by : (cell : LightCell) → get_or p.cells (y * p.size.w + x) Black ≡ cell → IsNextTo (c / p.size.w) y × IsNextTo (c % p.size.w) x
    by White e = absurd (true≢false (sym (rw e at on) ∙ any-none c))
    by Black e = absurd (true≢false (sym (rw e at on) ∙ any-none c))
    by (Numbered n) e =
        let there = any-one (exactly n (filter (white p) (steps p.size (y * p.size.w + x) 4))) c (rw e at on) in
        let s = steps-some p.size (y * p.size.w + x) 4 c (place-filter (white p) _ c there).0 in
        (step-lies p.size c (omega (arith, lt)) y x s.0 lt s.1 s.2, step-across p.size c y x s.0 lt s.1 s.2)

numbers-lie : (p : Light) (c y : ℕ) → any_has (numbers_of_row p y) c ≡ true → IsNextTo (c / p.size.w) y
numbers-lie p c y on = let w = any-below (λ x. number_house p (y * p.size.w + x)) p.size.w c on in (number-lies p c y w.1 w.2).0

-- ---- white cells
-- a white cell has a house of the cells that it sees, and a black one has none
lit-lies : (p : Light) (c d : ℕ) → any_has (lit_house p c) d ≡ true → has_place (seen_from p c) d ≡ true
lit-lies p c d on = elim (cases_Bool (white p c)) [
  | inl is ↦ any-one (one_at_least (seen_from p c)) d (rw is at on)
  | inr off ↦ absurd (true≢false (sym (rw off at on) ∙ any-none d))
]

pub lits-each : {p : Light} {c : ℕ} → IsLight p → c < light_cells p → AllByRecursion (IsAll (light_cells p)) (lit_house p c)
lits-each {p} {c} lawful lt = all-if _ (λ on. record { is = lit-is lawful lt on; same = refl })

-- ---- once cells of these lines have lost 0, and cells of those 1
module _ {W : Type 0} (bits : W → ℕ) {room : ℕ} (p : Light) {before now : LightWaits W} {zeros ones : Touched W} (K L : Candidates)
    (lawful : IsLight p) (narrow : p.size.w ≤ room) (low : p.size.h ≤ room) (full : IsBinaryAlive (light_cells p) K) (still : IsBinaryAlive (light_cells p) L) (inside : IsInside L K)
    (lost_zero : IsLostIn bits p.size.w 0 K L zeros) (lost_one : IsLostIn bits p.size.w 1 K L ones)
    (woken : AreLightsWoken bits room before zeros ones now) (rested : AreLightsRested bits p before K) where
  lost : (c v : ℕ) → v < 2 → K c v ≡ true → L c v ≡ false
      → ((has_bit (bits zeros.columns) (c % p.size.w) || has_bit (bits ones.columns) (c % p.size.w)) ≡ true)
      × ((has_bit (bits zeros.rows) (c / p.size.w) || has_bit (bits ones.rows) (c / p.size.w)) ≡ true)
  lost c zero small on gone = let at = lost_zero c on gone in (or_left _ _ at.0, or_left _ _ at.1)
  lost c (suc zero) small on gone = let at = lost_one c on gone in (or_right _ _ at.0, or_right _ _ at.1)
  lost c (suc (suc v)) small on gone = absurd (omega (arith, small))

  -- numbers in a column that does not wait
  columns-rested : (y : ℕ) → y < p.size.h → AreIdleBut p (bits now.number_columns) y L
  columns-rested y y_in x lt off =
      idle-far (number_house p (y * p.size.w + x)) K L inside
      (λ c v on gone. false_from_ne_true _ (λ there.
      spread-off bits _ (λ k. has_bit (bits zeros.columns) k || has_bit (bits ones.columns) k) _ woken.number_columns (lost c v (full.low c v on) on gone).0 (omega (arith, lt, narrow)) off (number-lies p c y lt there).1))
      (rested.columns y y_in x lt (or_parts _ _ (sym (woken.number_columns x) ∙ off)).0)

  numbers-rested : (k : ℕ) → k < p.size.h → has_bit (bits now.numbers) k ≡ false → AreIdle (numbers_of_row p k) L
  numbers-rested k lt off =
      idle-far (numbers_of_row p k) K L inside
      (λ c v on gone. false_from_ne_true _ (λ there.
      spread-off bits _ (λ k. has_bit (bits zeros.rows) k || has_bit (bits ones.rows) k) _ woken.numbers (lost c v (full.low c v on) on gone).1 (omega (arith, lt, low)) off (numbers-lie p c k there)))
      (rested.numbers k lt (or_parts _ _ (sym (woken.numbers k) ∙ off)).0)

  runs-rested : (kind : RunKind) (k : ℕ) → k < run_lines p kind → has_bit (waiting_runs bits now kind) k ≡ false → AreIdle (run_houses p kind k) L
  runs-rested Rows k lt off =
      let parts = or_parts _ _ (sym (woken.rows_are k) ∙ off) in
      line-kept p (row-runs-of p k lawful) full still inside
      (λ j less. value-kept _ 0 inside (λ on gone. true≢false (sym (lost_zero _ on gone).1 ∙ ap (has_bit (bits zeros.rows)) (div-mul-add k p.size.w j less) ∙ parts.1)))
      (rested.runs Rows k lt parts.0)
  runs-rested Columns k lt off =
      let parts = or_parts _ _ (sym (woken.columns_are k) ∙ off) in
      line-kept p (column-runs-of p k lawful lt) full still inside
      (λ j _. value-kept _ 0 inside (λ on gone. true≢false (sym (lost_zero _ on gone).0 ∙ ap (has_bit (bits zeros.columns)) (place-column p.size.w j k lt) ∙ parts.1)))
      (rested.runs Columns k lt parts.0)

  whites-rested : (c : ℕ) → c < light_cells p → IsAway bits p now.ones c → AreIdle (lit_house p c) L
  whites-rested c lt away =
      alls-kept (light_cells p) (lit_house p c) K L (lits-each lawful lt) full still inside
      (λ d there. value-kept d 1 inside (λ on gone.
      let at = lost_one d on gone in
      away d (lit-lies p c d there) (woken.one_columns _ ∙ or_right _ _ at.0, woken.one_rows _ ∙ or_right _ _ at.1)))
      (rested.whites c lt (λ d there at. away d there (woken.one_columns _ ∙ or_left _ _ at.0, woken.one_rows _ ∙ or_left _ _ at.1)))

  pub lines-board : AreLightsRested bits p now L
  lines-board = record { numbers = numbers-rested; runs = runs-rested; columns = columns-rested; whites = whites-rested }

pub lines-woken : {W : Type 0} (bits : W → ℕ) {room : ℕ} (p : Light) (zeros ones : Touched W) {from to : Layers} {len : ℕ} (before now : LightWaits W)
    → IsLostIn bits to.size.w 0 (back_at to len) (planes_have to) zeros → IsLostIn bits to.size.w 1 (back_at to len) (planes_have to) ones
    → ArePlanesOf room p to → ArePlanesOf room p from → from.len ≡ len → IsFurther from to
    → AreLightsWoken bits room before zeros ones now → AreLightsRested bits p before (planes_have from) → AreLightsRested bits p now (planes_have to)
lines-woken bits p zeros ones {from} {to} {len} before now lost_zeros lost_ones of was is further =
    lines-board bits p (planes_have from) (planes_have to) of.lawful of.narrow of.low (planes-full p from was.size was.alive) (planes-full p to of.size of.alive) further.inside
    (λ c on gone. rw (of.size) at (lost_zeros c (rw (back-whole is further) on) gone)) (λ c on gone. rw (of.size) at (lost_ones c (rw (back-whole is further) on) gone))

-- ---- where all cells may have lost values
pub lines-all : {W : Type 0} (bits : W → ℕ) {room : ℕ} (p : Light) (waits : LightWaits W) (K : Candidates) → IsLight p → p.size.w ≤ room → p.size.h ≤ room
    → ((k : ℕ) → k < room → has_bit (bits waits.numbers) k ≡ true) → ((k : ℕ) → k < room → has_bit (bits waits.number_columns) k ≡ true)
    → ((k : ℕ) → k < room → has_bit (bits waits.rows) k ≡ true) → ((k : ℕ) → k < room → has_bit (bits waits.columns) k ≡ true)
    → ((y x : ℕ) → y < room → x < room → AreLinesOf bits waits.ones y x) → AreLightsRested bits p waits K
lines-all bits p waits K lawful narrow low numbers number_columns rows columns ones = record {
  numbers = λ y lt off. absurd (true≢false (sym (numbers y (omega (arith, lt, low))) ∙ off));
  runs = by;
  columns = λ y y_in x lt off. absurd (true≢false (sym (number_columns x (omega (arith, lt, narrow))) ∙ off));
  whites = λ c lt away. elim (cases_Bool (white p c)) [
    | inl on ↦ absurd (away c (seen-in-row p lawful c on c (line-self p Rows c on)) (ones _ _ (omega (arith, row-in p.size.h c (light-board lawful).some lt, low)) (omega (arith, mod-lt c (light-board lawful).some, narrow))))
    | inr off ↦ black-idle p c K off
  ];
}
  where
    by : (kind : RunKind) (k : ℕ) → k < run_lines p kind → has_bit (waiting_runs bits waits kind) k ≡ false → AreIdle (run_houses p kind k) K
    by Rows k lt off = absurd (true≢false (sym (rows k (omega (arith, lt, low))) ∙ off))
    by Columns k lt off = absurd (true≢false (sym (columns k (omega (arith, lt, narrow))) ∙ off))

-- ---- where a closing begins
-- all houses of a closed board are idle
module _ (p : Light) (K : Candidates) (closed : IsClosed (light_rules p) K) where
  part-idle : (part : List CountHouse) → IsPartOf part (light_houses p) → AreIdle part K
  part-idle part within = closed-idle (light_cells p) (λ c. not (white p c)) (light_houses p) (solves_lights p) K closed within

  numbers-part : (part : List CountHouse) → IsPartOf part (houses_below (number_house p) (light_cells p)) → AreIdle part K
  unfolding light_houses
  numbers-part part within = part-idle part (in-front _ _ _ within)

  runs-idle : (kind : RunKind) (k : ℕ) → k < run_lines p kind → AreIdle (run_houses p kind k) K
  unfolding light_houses
  runs-idle Rows k lt = part-idle (row_runs_of_row p k)
      (in-back (houses_below (number_house p) (light_cells p)) (in-front _ _ _ (rw (row-runs-are p) at (in-below (row_runs_of_row p) lt))))
  runs-idle Columns k lt = below-idle (λ y. column_house p (y * p.size.w + k)) p.size.h K
      (λ y less. part-idle (column_house p (y * p.size.w + k))
      (in-back (houses_below (number_house p) (light_cells p)) (in-back (houses_below (row_house p) (light_cells p))
      (in-front _ _ _ (in-below (column_house p) (place-in p.size.w p.size.h y k less lt))))))

  white-idle : {c : ℕ} → c < light_cells p → AreIdle (lit_house p c) K
  unfolding light_houses
  white-idle {c} lt = part-idle (lit_house p c)
      (in-back (houses_below (number_house p) (light_cells p)) (in-back (houses_below (row_house p) (light_cells p))
      (in-back (houses_below (column_house p) (light_cells p)) (in-below (lit_house p) lt))))

  closed-rested : {W : Type 0} (bits : W → ℕ) (none : LightWaits W) → AreLightsRested bits p none K
  closed-rested bits none = record {
    numbers = λ k lt off. numbers-part (numbers_of_row p k) (rw (numbers-are p) at (in-below (numbers_of_row p) lt));
    runs = λ kind k lt off. runs-idle kind k lt;
    columns = λ y y_in x lt off. numbers-part (number_house p (y * p.size.w + x))
        (in-below (number_house p) (place-in p.size.w p.size.h y x y_in lt));
    whites = λ c lt away. white-idle lt;
  }

-- a closing begins at a cell, which has lost a value
pub lines-at : {W : Type 0} {bits : W → ℕ} {room : ℕ} {p : Light} {planes : Layers} {place : ℕ} {none now : LightWaits W} {zeros ones : Touched W}
    → ArePlanesOf room p planes → IsClosedAround (light_rules p) (planes_have planes) place
    → (planes_have planes place 0 ≡ false → AreLinesOf bits zeros (place / p.size.w) (place % p.size.w))
    → (planes_have planes place 1 ≡ false → AreLinesOf bits ones (place / p.size.w) (place % p.size.w))
    → AreLightsWoken bits room none zeros ones now → AreLightsRested bits p now (planes_have planes)
lines-at {W = W} {bits} {p} {planes} {place} {none} {zeros} {ones} of around no_zero no_one woken =
    lines-board bits p around.before (planes_have planes) of.lawful of.narrow of.low (full-before (light_counts p) around) (planes-full p planes of.size of.alive)
    (around-inside (light_counts p) around) (around-lost (light_counts p) around bits p.size.w 0 zeros no_zero) (around-lost (light_counts p) around bits p.size.w 1 ones no_one) woken
    (closed-rested p around.before around.closed bits none)

-- ---- the last row whose numbers wait is settled
module _ {W : Type 0} (bits : W → ℕ) (p : Light) (before now : LightWaits W) (room y : ℕ) (K : Candidates)
    (numbers : (k : ℕ) → has_bit (bits now.numbers) k ≡ (has_bit (bits before.numbers) k && not (eqb k y)))
    (rows : now.rows ≡ before.rows) (columns : now.columns ≡ before.columns) (ones : now.ones ≡ before.ones)
    (rested : AreLightsRested bits p before K) (idle : AreIdle (numbers_of_row p y) K) where
  runs-settled : (kind : RunKind) (k : ℕ) → k < run_lines p kind → has_bit (waiting_runs bits now kind) k ≡ false → AreIdle (run_houses p kind k) K
  runs-settled Rows k lt off = rested.runs Rows k lt (rw rows at off)
  runs-settled Columns k lt off = rested.runs Columns k lt (rw columns at off)

  numbers-settled : (k : ℕ) → k < p.size.h → has_bit (bits now.numbers) k ≡ false → AreIdle (numbers_of_row p k) K
  numbers-settled k lt off = grind (arith, common_steps, cases_Bool, eqb-true, first-off)

  pub last-settled : p.size.h ≤ room → any_below (has_bit (bits now.numbers)) room ≡ false → AreLightsRested bits p now K
  last-settled low none = record {
    numbers = numbers-settled;
    runs = runs-settled;
    columns = λ z z_in x lt off. idle-one (λ k. number_house p (z * p.size.w + k)) K lt
        (numbers-settled z z_in (any_below-none (has_bit (bits now.numbers)) room none z (omega (arith, z_in, low))));
    whites = λ c lt away. rested.whites c lt (rw ones at away);
  }

-- Sweeps of the houses of Light Up on planes.

-- ---- runs and white cells that are visited leave others idle
pub runs-single : (p : Light) (kind : RunKind) (k : ℕ) → IsLight p → k < run_lines p kind → AllByRecursion (IsSingle (light_cells p)) (run_houses p kind k)
runs-single p Rows k lawful lt = line-single p (row-runs-of p k lawful)
runs-single p Columns k lawful lt = line-single p (column-runs-of p k lawful lt)

pub runs-done : {room : ℕ} (p : Light) (kind : RunKind) {from to : Layers} → ArePlanesOf room p from
    → AreVisited (houses_below (run_houses p kind) (run_lines p kind)) from to true → (k : ℕ) → k < run_lines p kind → AreIdle (run_houses p kind k) (planes_have to)
runs-done p kind of visited = quiet-done (singles-quiet (light_cells p)) (run_houses p kind) (λ k lt. runs-single p kind k of.lawful lt) (rw of.size refl) of.alive (omega arith) visited

pub lit-all : {p : Light} {y x : ℕ} → IsLight p → y < p.size.h → x < p.size.w → AllByRecursion (IsAll (light_cells p)) (lit_house p (y * p.size.w + x))
lit-all {p} {y} {x} lawful y_in x_in = lits-each lawful (place-in p.size.w p.size.h y x y_in x_in)

pub row-lits : {p : Light} {y : ℕ} → IsLight p → y < p.size.h → AllByRecursion (IsAll (light_cells p)) (lits_of_row p y)
row-lits {p} {y} lawful y_in = all-houses (IsAll (light_cells p)) (λ x. lit_house p (y * p.size.w + x)) p.size.w (λ x lt. lit-all lawful y_in lt)

-- in a row, and row by row
pub lit-stays : {room : ℕ} {p : Light} {y x : ℕ} {from to : Layers} {m : ℕ} → ArePlanesOf room p from → m ≤ p.size.w → y < p.size.h → x < p.size.w
    → AreVisited (houses_below (λ x. lit_house p (y * p.size.w + x)) m) from to true
    → AreIdle (lit_house p (y * p.size.w + x)) (planes_have from) → AreIdle (lit_house p (y * p.size.w + x)) (planes_have to)
lit-stays {p} {y} {x} of le y_in x_in visited idle =
    quiet-stays (alls-quiet (light_cells p)) (λ x. lit_house p (y * p.size.w + x)) (λ x lt. lit-all of.lawful y_in lt) (rw of.size refl) of.alive le visited
    (lit_house p (y * p.size.w + x)) (lit-all of.lawful y_in x_in) idle

pub lits-stay : {room : ℕ} {p : Light} {y x : ℕ} {from to : Layers} {m : ℕ} → ArePlanesOf room p from → m ≤ p.size.h → y < p.size.h → x < p.size.w
    → AreVisited (houses_below (lits_of_row p) m) from to true
    → AreIdle (lit_house p (y * p.size.w + x)) (planes_have from) → AreIdle (lit_house p (y * p.size.w + x)) (planes_have to)
lits-stay {p} {y} {x} of le y_in x_in visited idle =
    quiet-stays (alls-quiet (light_cells p)) (lits_of_row p) (λ y lt. row-lits of.lawful lt) (rw of.size refl) of.alive le visited
    (lit_house p (y * p.size.w + x)) (lit-all of.lawful y_in x_in) idle

-- and another, after a visit of one
pub lit-kept : {room : ℕ} {p : Light} {y j k : ℕ} {from to : Layers} → ArePlanesOf room p from → y < p.size.h → j < p.size.w → k < p.size.w
    → AreVisited (lit_house p (y * p.size.w + j)) from to true → AreIdle (lit_house p (y * p.size.w + k)) (planes_have from) → AreIdle (lit_house p (y * p.size.w + k)) (planes_have to)
lit-kept {p} {y} {j} {k} of y_in j_in k_in visited idle =
    quiet-one (alls-quiet (light_cells p)) (lit_house p (y * p.size.w + j)) (lit-all of.lawful y_in j_in) (rw of.size refl) of.alive visited
    (lit_house p (y * p.size.w + k)) (lit-all of.lawful y_in k_in) idle

-- two cells that can have a bulb still can, and one that must still must: visits of white cells take no 1
pub lits-safe : {room : ℕ} {p : Light} (houses : List CountHouse) {from to : Layers} {cells : ℕ → Bool} → AllByRecursion (IsAll (light_cells p)) houses
    → ArePlanesOf room p from → AreVisited houses from to true → AreSafe cells (planes_have from) → AreSafe cells (planes_have to)
lits-safe {p} houses {from} {to} each of visited safe =
    let after = rw (visited.left refl) at (planes-full p to (visited.further.same_size ∙ of.size) visited.alive) in
    let ones : (c : ℕ) → planes_have to c 1 ≡ planes_have from c 1 =
    λ c. rw (visited.left refl) (alls-ones (light_cells p) houses (planes_have from) each (planes-full p from of.size of.alive) after c) in
    record {
      one = safe.one;
      other = safe.other;
      one_in = safe.one_in;
      other_in = safe.other_in;
      one_on = ones safe.one ∙ safe.one_on;
      other_on = ones safe.other ∙ safe.other_on;
      apart = elim safe.apart [
        | inl ne ↦ inl ne
        | inr must ↦ inr (false_from_ne_true _ (λ on. true≢false (sym (visited.further.inside safe.one 0 on) ∙ must)))
      ];
    }

-- rows that no cell that waits is in
pub out-idle : {W : Type 0} {bits : W → ℕ} {room : ℕ} {p : Light} {from : Layers} {notes : LightNotes W} {first end : ℕ} → AreLightsReady bits room p from notes
    → IsReach bits p notes.waits.ones first end → (y : ℕ) → y < p.size.h → (y < first) ⊎ (end ≤ y) → AreIdle (lits_of_row p y) (planes_have from)
out-idle {p = p} {from = from} ready reach y y_in out =
    below-idle (λ x. lit_house p (y * p.size.w + x)) p.size.w (planes_have from)
    (λ x lt. ready.rested.whites (y * p.size.w + x) (place-in p.size.w p.size.h y x y_in lt) (reach.away y x y_in lt out))

pub row-stays : {room : ℕ} {p : Light} {y : ℕ} {from to : Layers} {m : ℕ} → ArePlanesOf room p from → m ≤ p.size.h → y < p.size.h
    → AreVisited (houses_below (lits_of_row p) m) from to true → AreIdle (lits_of_row p y) (planes_have from) → AreIdle (lits_of_row p y) (planes_have to)
row-stays {p} {y} of le y_in visited idle =
    quiet-stays (alls-quiet (light_cells p)) (lits_of_row p) (λ y lt. row-lits of.lawful lt) (rw of.size refl) of.alive le visited
    (lits_of_row p y) (row-lits of.lawful y_in) idle

pub lits-done : {room : ℕ} (p : Light) {from to : Layers} → ArePlanesOf room p from → AreVisited (houses_below (lit_house p) (light_cells p)) from to true
    → (c : ℕ) → c < light_cells p → AreIdle (lit_house p c) (planes_have to)
lits-done p of visited = quiet-done (alls-quiet (light_cells p)) (lit_house p) (λ c lt. lits-each of.lawful lt) (rw of.size refl) of.alive (omega arith) visited

-- ---- the houses in order
pub lits-are : (p : Light) → houses_below (lits_of_row p) p.size.h ≡ houses_below (lit_house p) (light_cells p)
lits-are p = below-rows (lit_house p) p.size.w p.size.h
    ∙ ap (houses_below (lit_house p)) (let e : p.size.h * p.size.w ≡ p.size.w * p.size.h = omega arith in e)

pub lights-swept : (p : Light) {from to : Layers} {fills : Bool} → from.size ≡ p.size
    → AreVisited (houses_below (numbers_of_row p) p.size.h ++ white_houses p) from to fills → IsSweep (light_rules p) from to fills
unfolding light_houses
lights-swept p {from} {to} {fills} size visited =
    let all : AreVisited (light_houses p) from to fills =
    rw (numbers-are p, append_assoc (houses_below (row_house p) (light_cells p)) (houses_below (column_house p) (light_cells p)) (houses_below (lit_house p) (light_cells p))) at visited in
    visits-swept (light_cells p) (λ c. not (white p c)) (light_houses p) (solves_lights p) (rw size refl) all

-- ---- what is kept
pub planes-next : {room : ℕ} {p : Light} {from to : Layers} → ArePlanesOf room p from → IsFurther from to → ArePlanesAlive to → ArePlanesOf room p to
planes-next of further alive = grind (arith, common_steps)

-- what does not wait is idle again
pub ready-next : {W : Type 0} {bits : W → ℕ} {room : ℕ} {p : Light} {from to : Layers} {notes : LightNotes W} → AreLightsReady bits room p from notes
    → IsFurther from to → ArePlanesAlive to → (now : LightNotes W) → now.tables ≡ notes.tables
    → AreLightsRested bits p now.waits (planes_have to) → AreLightsReady bits room p to now
ready-next {bits = bits} {room = room} {p = p} ready further alive now tables rested = grind (arith, common_steps, planes-next)

-- ---- what a closing asks of planes
pub planes-of : {room : ℕ} {p : Light} {planes : Layers} → IsLight p → HasBoard (light_rules p) p.size room planes → ArePlanesOf room p planes
planes-of {planes = planes} lawful has_board = grind (arith, common_steps, cells-alive)
