-- Planes step by step, and their rows as cells by place.
use Rattle.grid_core.proofs.Common.{AreLinesFilled, ArePlanes, Bool, Candidates, Extent, HasRoomForTaking, IsExtent, IsFresh, IsLeast, IsTakingIn, IsThere, Layers, List, None, Option, Row, Some, Taking, all_of, and_comm, and_parts, any_below, ap, arith, better, bit_of, bool_byte, cases_Bool, cases_eq, cases_lt, plane_cells, common_steps, cond, count_below, covers, crosses, div-add-mod', div-lt_iff_lt-mul, div-mul-add, eq-eqb, eqb, eqb-true, false, false_from_ne_true, fun_ext, get_or, get_or-map, get_or-replicate, get_or-set_other, get_or-set_same, get_or_past, grid_of, planes_have, has_bit, inl, inr, is_full, layers_of, le-ltb, length, length-map, length-replicate, length-set, lt-ltb, ltb, ltb-true, map, map-set, mod-lt, ne_eqb, no_taking, not, only, pick, refl, replicate, set, slice_index, suc, sym, taking_at, taking_of, true, without_taking, zero, ℕ, ◌%◌, ◌&&◌, ◌*◌, ◌+◌, ◌-◌, ◌/◌, ◌<◌, ◌↔◌, ◌∙◌, ◌≡◌, ◌≤◌}
use Rattle.grid_core.proofs.BoardLemmas.{any_below-none, total-bound}
use Rattle.grid_core.proofs.WordLemmas.{zero-bits}
use Rattle.grid_core.specs.declared.planes.line.Change.{Change}
use Rattle.grid_core.specs.declared.planes.Planes.TheInside.{Inside}
use Rattle.grid_core.specs.Planes.{IsTurned, number_of}
use Rattle.std.specs.Global.{Vec}
use Rattle.grid_core.proofs.TakingLemmas.{takings-len, takings-none}
use Rattle.grid_core.proofs.PlaneLemmas.{IsPutBack, ArePlanesTaken, given_back, place-column, place-in, room_for, taken}
use Rattle.grid_core.proofs.GridLemmas.{grid_of-full, is_full-count, single-is}

-- One step of planes, by the words that the program keeps.

-- ---- reading
pub word_read : {W : Type 0} (bits : W → ℕ) (words : List W) (line v : ℕ) (word : W) → 2 * line + v < length words → word ≡ get_or words (2 * line + v) word
    → (p : ℕ) → has_bit (bits word) p ≡ bit_of (map bits words) line v p
unfolding bit_of
word_read bits words line v word lt read p = ap (λ (n : ℕ). has_bit n p) (sym (get_or-map bits words (2 * line + v) word 0 lt ∙ ap bits (sym read)))

pub taking_read : {W : Type 0} (bits : W → ℕ) (changes : List (Change W)) (k : ℕ) (change : Change W) → k < length changes → change ≡ get_or changes k change
    → taking_at (map (taking_of bits) changes) k ≡ taking_of bits change
taking_read bits changes k change lt read = get_or-map (taking_of bits) changes k change no_taking lt ∙ ap (taking_of bits) (sym read)

full-has : (p : Layers) (size : Extent) → p.size ≡ size → 0 < size.w
    → ((y v x : ℕ) → v < 2 → bit_of p.rows y v x ≡ (ltb y size.h && ltb x size.w))
    → planes_have p ≡ all_of (size.w * size.h) 2
unfolding planes_have all_of
full-has p size e pos is = fun_ext λ c. fun_ext λ v. elim (cases_lt v 2) [
  | inl low ↦ rw (e, lt-ltb v 2 low, is (c / size.w) v (c % size.w) low, lt-ltb (c % size.w) size.w (mod-lt c pos)) (row-in c)
  | inr high ↦ rw (le-ltb v 2 high) (and-off c v)
]
  where
    and-off : (c v : ℕ) → false ≡ (ltb c (size.w * size.h) && false)
    and-off c v = grind (arith, common_steps, cases_Bool)

    below : (c : ℕ) → (c < size.h * size.w → c / size.w < size.h) → size.h ≤ c / size.w → size.w * size.h ≤ c
    below c from high = elim (cases_lt c (size.h * size.w)) [
      | inl lt ↦ absurd (let h = from lt in omega arith)
      | inr le ↦ omega arith
    ]

    row-in : (c : ℕ) → (true && (ltb (c / size.w) size.h && true)) ≡ (ltb c (size.w * size.h) && true)
    row-in c =
        let d : (c / size.w < size.h) ↔ (c < size.h * size.w) = div-lt_iff_lt-mul pos in
        let to = d.0 in
        let from = d.1 in
        elim (cases_lt (c / size.w) size.h) [
          | inl low ↦ rw (lt-ltb (c / size.w) size.h low, lt-ltb c (size.w * size.h) (omega (arith, to low))) refl
          | inr high ↦ rw (le-ltb (c / size.w) size.h high, le-ltb c (size.w * size.h) (below c from high)) refl
        ]

-- ---- a board to begin with
pub record ArePlanesBegun (room : ℕ) (size : Extent) (K : Candidates) (p : Layers) : Type 0 where
  pub are : ArePlanes room p
  pub fresh : IsFresh size K p

-- the first words, so many lines of them, have these places, and all others none
pub record AreLinesWritten {W : Type 0} (bits : W → ℕ) (words : List W) (lines : ℕ) (word : W) (room : ℕ) : Type 0 where
  pub is : AreLinesFilled bits lines word words
  pub long : length words ≡ 2 * room

bit_written : {W : Type 0} (bits : W → ℕ) (words : List W) (lines : ℕ) (word : W) (room line v place n : ℕ) → AreLinesWritten bits words lines word room
    → has_bit (bits word) place ≡ ltb place n → v < 2 → bit_of (map bits words) line v place ≡ (ltb line lines && ltb place n)
unfolding bit_of
bit_written bits words lines word room line v place n written first lt = grind (arith, ltb, cases_lt, lt-ltb, le-ltb, written.is)

-- words that have places in the first lines alone have none further on; and words of no place have none
pub none-beyond : (words : List ℕ) (lines : ℕ) → ((line place v : ℕ) → v < 2 → bit_of words line v place ≡ true → line < lines)
    → (k place : ℕ) → 2 * lines ≤ k → has_bit (slice_index words k) place ≡ false
unfolding bit_of
none-beyond words lines within k place le = false_from_ne_true (has_bit (slice_index words k) place) (λ on.
    let split : 2 * (k / 2) + k % 2 ≡ k = omega arith in
    let low = within (k / 2) place (k % 2) (omega arith) (rw split on) in
    absurd (omega (arith, low, le)))

pub none-anywhere : {W : Type 0} (bits : W → ℕ) (none : W) (count : ℕ) (words : List W) → ((p : ℕ) → has_bit (bits none) p ≡ false) → words ≡ replicate count none
    → (k place : ℕ) → has_bit (slice_index (map bits words) k) place ≡ false
none-anywhere bits none count words empty e k place = elim (cases_lt k count) [
  | inl low ↦ rw (e, get_or-map bits (replicate count none) k none 0 (omega (arith, low, length-replicate count none)), get_or-replicate count k none none low) (empty place)
  | inr high ↦ rw (e, get_or_past (map bits (replicate count none)) k 0 (omega (arith, high, length-map (replicate count none) bits, length-replicate count none))) (zero-bits place)
]

-- full planes: each row has the places below the width, and each column those below the height
pub begun : {W : Type 0} (bits : W → ℕ) (room : ℕ) (size : Extent) (row column : W) (changes : List (Change W)) → IsExtent size → size.w ≤ room → size.h ≤ room
    → ((p : ℕ) → has_bit (bits row) p ≡ ltb p size.w) → ((p : ℕ) → has_bit (bits column) p ≡ ltb p size.h) → size.w * size.h * 2 ≤ length changes
    → (rows columns : List W) → AreLinesWritten bits rows size.h row room → AreLinesWritten bits columns size.w column room
    → ArePlanesBegun room size (all_of (size.w * size.h) 2) (layers_of bits size rows columns changes 0)
begun bits room size row column changes lawful narrow low row_is column_is long rows columns er ec =
    let p : Layers = layers_of bits size rows columns changes 0 in
    let by_row : (y v x : ℕ) → v < 2 → bit_of p.rows y v x ≡ (ltb y size.h && ltb x size.w) = λ y v x lt.
    bit_written bits rows size.h row room y v x size.w er (row_is x) lt in
    let by_column : (x v y : ℕ) → v < 2 → bit_of p.columns x v y ≡ (ltb x size.w && ltb y size.h) = λ x v y lt.
    bit_written bits columns size.w column room x v y size.h ec (column_is y) lt in
    record {
      are = record {
        lawful = lawful;
        narrow = narrow;
        low = low;
        tall = length-map rows bits ∙ er.long;
        wide = length-map columns bits ∙ ec.long;
        words = record {
          within = λ y x v lt on.
              let w = and_parts _ _ (sym (by_row y v x lt) ∙ on) in (ltb-true y size.h w.0, ltb-true x size.w w.1);
          agree = λ y x v lt. by_row y v x lt ∙ and_comm (ltb y size.h) (ltb x size.w) ∙ sym (by_column x v y lt);
        };
        takings = takings-none size (planes_have p) p.takings (omega (arith, length-map changes (taking_of bits), long)) (total-bound (size.w * size.h) 2 (planes_have p));
      };
      fresh = record { same_size = refl; holds = full-has p size refl lawful.w_low by_row; none = refl };
    }

-- ---- a cell
pub has_read : (p : Layers) (c v : ℕ) → v < 2 → bit_of p.rows (c / p.size.w) v (c % p.size.w) ≡ planes_have p c v
unfolding planes_have
has_read p c v lt = rw (lt-ltb v 2 lt) refl

-- a line of the trail is among those that there is room for
pub line_room : (room : ℕ) (p : Layers) (k : ℕ) → ArePlanes room p → k < p.len → number_of (taking_at p.takings k).line < room
line_room room p k are lt = grind (arith, p.takings, are.takings.takings_in, p.size, are.low, are.narrow)

-- ---- a step taken, and put back
module _ {W : Type 0} (bits : W → ℕ) (p : Inside W) {room : ℕ}
    (are : ArePlanes room (layers_of bits p.size p.rows.items p.columns.items p.changes.items p.len)) where
  pub take_step : (rows columns : Vec W) (change : Change W) → IsThere (layers_of bits p.size p.rows.items p.columns.items p.changes.items p.len) (taking_of bits change)
      → IsTurned bits change.line change.value change.bits p.rows p.columns rows columns → length rows.items ≡ length p.rows.items → length columns.items ≡ length p.columns.items
      → ArePlanesTaken room (layers_of bits p.size p.rows.items p.columns.items p.changes.items p.len)
      (layers_of bits p.size rows.items columns.items (set p.changes.items p.len change) (p.len + 1)) (taking_of bits change)
  take_step rows columns change there turned tall wide =
      rw (map-set (taking_of bits) p.changes.items p.len change) (taken room _ _ (map bits rows.items) (map bits columns.items) are there turned
      (length-map rows.items bits ∙ tall ∙ sym (length-map p.rows.items bits)) (length-map columns.items bits ∙ wide ∙ sym (length-map p.columns.items bits)))

  pub undo_step : (rows columns : Vec W) (n : ℕ) (change : Change W) → n + 1 ≡ p.len → taking_at (map (taking_of bits) p.changes.items) n ≡ taking_of bits change
      → IsTurned bits change.line change.value change.bits p.rows p.columns rows columns → length rows.items ≡ length p.rows.items → length columns.items ≡ length p.columns.items
      → IsPutBack room (layers_of bits p.size p.rows.items p.columns.items p.changes.items p.len) (layers_of bits p.size rows.items columns.items p.changes.items n)
  undo_step rows columns n change e last turned tall wide =
      given_back room _ (map bits rows.items) (map bits columns.items) n are e (rw last turned)
      (length-map rows.items bits ∙ tall ∙ sym (length-map p.rows.items bits)) (length-map columns.items bits ∙ wide ∙ sym (length-map p.columns.items bits))

  pub room_at : (t : Taking) → IsTakingIn p.size t → HasRoomForTaking room p.rows.items p.columns.items t
  room_at t within = rw (length-map p.rows.items bits, length-map p.columns.items bits) at (room_for room _ t are within)

  -- what was taken last
  pub last_read : (change : Change W) → 0 < p.len → change ≡ get_or p.changes.items (p.len - 1) change
      → taking_at (map (taking_of bits) p.changes.items) (p.len - 1) ≡ taking_of bits change
  last_read change pos read =
      let long = takings-len _ _ _ _ are.takings in
      taking_read bits p.changes.items (p.len - 1) change (omega (arith, long, length-map p.changes.items (taking_of bits))) read

-- Rows of planes as cells by place: which can have both values, and which have just one.

-- ---- a cell's values
pub two-counted : (f : ℕ → Bool) → count_below f 2 ≡ cond (f 0) 1 0 + cond (f 1) 1 0
unfolding count_below
two-counted f = omega arith

pub has-at : (p : Layers) (y x v : ℕ) → x < p.size.w → v < 2 → planes_have p (y * p.size.w + x) v ≡ bit_of p.rows y v x
unfolding planes_have
has-at p y x v lx lv = rw (div-mul-add y p.size.w x lx, place-column p.size.w y x lx, lt-ltb v 2 lv) refl

values-at : (p : Layers) (y x : ℕ) → x < p.size.w → count_below (planes_have p (y * p.size.w + x)) 2 ≡ cond (bit_of p.rows y 0 x) 1 0 + cond (bit_of p.rows y 1 x) 1 0
values-at p y x lt = two-counted (planes_have p (y * p.size.w + x)) ∙ rw (has-at p y x 0 lt (omega arith), has-at p y x 1 lt (omega arith)) refl

-- what is so of the cells of the rows above y, and of those of row y, is so of those of one row more
rows-more : (p : Layers) (n : ℕ → Type 0) (y : ℕ) → ((c : ℕ) → c < y * p.size.w → n (count_below (planes_have p c) 2))
    → ((x : ℕ) → x < p.size.w → n (cond (bit_of p.rows y 0 x) 1 0 + cond (bit_of p.rows y 1 x) 1 0))
    → (c : ℕ) → c < (y + 1) * p.size.w → n (count_below (planes_have p c) 2)
rows-more p n y above row c lt = elim (cases_lt c (y * p.size.w)) [
  | inl before ↦ above c before
  | inr le ↦
      let x = c - y * p.size.w in
      let lx : x < p.size.w = omega arith in
      let e : c ≡ y * p.size.w + x = omega arith in
      rw (e, values-at p y x lx) (row x lx)
]

-- ---- of two values the cell to branch on is the first with both
pub pick-none : (n : ℕ) (K : Candidates) → ((c : ℕ) → c < n → count_below (K c) 2 < 2) → pick n 2 K ≡ None
unfolding pick better
pick-none zero K few = refl
pick-none (suc n) K few = grind (arith, common_steps, pick-none n K, few n)

pick-first : (n : ℕ) (K : Candidates) (cell : ℕ) → cell < n → count_below (K cell) 2 ≡ 2
    → ((c : ℕ) → c < cell → count_below (K c) 2 < 2) → pick n 2 K ≡ Some cell
unfolding pick better
pick-first zero K cell lt two few = absurd (omega arith)
pick-first (suc n) K cell lt two few = grind (arith, common_steps, cases_eq cell n, pick-none cell K few, pick-first n K cell)

none-before : (o : Option ℕ) (n : ℕ) (K : Candidates) → better 2 K o n ≡ None → (o ≡ None) × (count_below (K n) 2 < 2)
unfolding better
none-before None n K none = grind (arith, common_steps)
none-before (Some best) n K none = grind (arith, common_steps)

pub pick-few : (n : ℕ) (K : Candidates) → pick n 2 K ≡ None → (c : ℕ) → c < n → count_below (K c) 2 < 2
unfolding pick
pick-few zero K none c lt = absurd (omega arith)
pick-few (suc n) K none c lt =
    let w = none-before (pick n 2 K) n K none in
    elim (cases_eq c n) [ inl e ↦ rw e w.1 | inr ne ↦ pick-few n K w.0 c (omega arith) ]

-- a row's cells that can have both values
pub record IsOpenRow (p : Layers) (y both : ℕ) : Type 0 where
  pub is : (x : ℕ) → has_bit both x ≡ (bit_of p.rows y 0 x && bit_of p.rows y 1 x)

pub pick-row_none : (p : Layers) (room y both : ℕ) → p.size.w ≤ room → pick (y * p.size.w) 2 (planes_have p) ≡ None
    → IsOpenRow p y both → any_below (has_bit both) room ≡ false → pick ((y + 1) * p.size.w) 2 (planes_have p) ≡ None
pick-row_none p room y both narrow none row off =
    pick-none ((y + 1) * p.size.w) (planes_have p) (rows-more p (λ n. n < 2) y (pick-few (y * p.size.w) (planes_have p) none) few)
  where
    few : (x : ℕ) → x < p.size.w → cond (bit_of p.rows y 0 x) 1 0 + cond (bit_of p.rows y 1 x) 1 0 < 2
    few x lt = grind (arith, common_steps, cases_Bool, any_below-none (has_bit both) room off x, row.is x)

pub pick-row_some : (p : Layers) (room y both x : ℕ) → y < p.size.h → x < p.size.w → pick (y * p.size.w) 2 (planes_have p) ≡ None
    → IsOpenRow p y both → IsLeast (has_bit both) room x → pick (plane_cells p) 2 (planes_have p) ≡ Some (y * p.size.w + x)
pick-row_some p room y both x ly lx none row least =
    pick-first (plane_cells p) (planes_have p) (y * p.size.w + x) (place-in p.size.w p.size.h y x ly lx) here before
  where
    here : count_below (planes_have p (y * p.size.w + x)) 2 ≡ 2
    here = values-at p y x lx ∙ grind (arith, common_steps, cases_Bool, row.is x, least.has)

    few : (k : ℕ) → k < x → cond (bit_of p.rows y 0 k) 1 0 + cond (bit_of p.rows y 1 k) 1 0 < 2
    few k lt = grind (arith, common_steps, cases_Bool, least.before k, row.is k)

    before : (c : ℕ) → c < y * p.size.w + x → count_below (planes_have p c) 2 < 2
    before c lt = elim (cases_lt c (y * p.size.w)) [
      | inl above ↦ pick-few (y * p.size.w) (planes_have p) none c above
      | inr le ↦ let e : c ≡ y * p.size.w + (c - y * p.size.w) = omega arith in
          rw (e, values-at p y (c - y * p.size.w) (omega arith))
          (few (c - y * p.size.w) (omega arith))
    ]

-- ---- the grid of a full board
-- the first n numbers are values of their cells
pub record IsWritten (p : Layers) (g : List ℕ) (n : ℕ) : Type 0 where
  pub long : length g ≡ plane_cells p
  pub each : (c : ℕ) → c < n → (slice_index g c < 2) × (planes_have p c (slice_index g c) ≡ true)

-- of a cell with one value, that it has 1 is its value
one-value : (p : Layers) (c n : ℕ) → is_full (plane_cells p) 2 (planes_have p) ≡ true → c < plane_cells p → n ≡ bool_byte (planes_have p c 1) → (n < 2) × (planes_have p c n ≡ true)
one-value p c n full lt is = by (planes_have p c 1) refl
  where
    count : cond (planes_have p c 0) 1 0 + cond (planes_have p c 1) 1 0 ≡ 1
    count = sym (two-counted (planes_have p c)) ∙ is_full-count (plane_cells p) 2 (planes_have p) c full lt

    by : (b : Bool) → planes_have p c 1 ≡ b → (n < 2) × (planes_have p c n ≡ true)
    by true e = let n_is : n ≡ 1 = is ∙ rw e refl in (omega arith, rw n_is e)
    by false e = let n_is : n ≡ 0 = is ∙ rw e refl in (omega arith, rw n_is (grind (arith, common_steps, cases_Bool, count)))

pub written-more : (p : Layers) (g : List ℕ) (y x n : ℕ) → is_full (plane_cells p) 2 (planes_have p) ≡ true
    → y < p.size.h → x < p.size.w → IsWritten p g (y * p.size.w + x)
    → n ≡ bool_byte (bit_of p.rows y 1 x) → IsWritten p (set g (y * p.size.w + x) n) (y * p.size.w + (x + 1))
written-more p g y x n full ly lx written is =
    let place = y * p.size.w + x in
    let lt : place < plane_cells p = place-in p.size.w p.size.h y x ly lx in
    let one = one-value p place n full lt (is ∙ ap bool_byte (sym (has-at p y x 1 lx (omega arith)))) in
    record {
      long = length-set g place n ∙ written.long;
      each = λ c less. elim (cases_eq c place) [
        | inl e ↦ rw (e, get_or-set_same g place n 0 (omega (arith, lt, written.long))) one
        | inr ne ↦ rw (get_or-set_other g place c n 0 ne) (written.each c (omega arith))
      ];
    }

pub written-all : (p : Layers) (g : List ℕ) → is_full (plane_cells p) 2 (planes_have p) ≡ true → IsWritten p g (plane_cells p) → g ≡ grid_of (plane_cells p) 2 (planes_have p)
written-all p g full written = sym (grid_of-full (plane_cells p) 2 (planes_have p) g full written.long (λ c lt. (written.each c lt).0) (λ c v on.
    let w = single-is g c v on in rw (← w.1) (written.each c (omega (arith, w.0, written.long))).1))

-- ---- one value of a cell kept
pub value-in : (p : Layers) (c v : ℕ) → planes_have p c v ≡ true → v < 2
unfolding planes_have
value-in p c v on = ltb-true v 2 (and_parts _ _ on).0

other-value : (u v : ℕ) → u < 2 → v < 2 → eqb u (1 - v) ≡ not (eqb u v)
other-value u v lu lv = grind (arith, common_steps, cases_eq u v, cases_eq u (1 - v), eq-eqb, ne_eqb)

same-cell : (w c d : ℕ) → (eqb (d / w) (c / w) && eqb (d % w) (c % w)) ≡ eqb d c
same-cell w c d = grind (arith, cases_eq, eq-eqb, ne_eqb, false_from_ne_true, and_parts, div-add-mod', eqb-true)

pub kept-only : (p : Layers) (c v bits : ℕ) → v < 2 → ((x : ℕ) → has_bit bits x ≡ eqb x (c % p.size.w))
    → without_taking p.size.w (planes_have p) (record { line = Row (c / p.size.w); value = 1 - v; bits = bits }) ≡ only (planes_have p) c v
unfolding without_taking covers crosses only
kept-only p c v bits lt is = grind (arith, cases_Bool, other-value, value-in, same-cell, eqb)
