-- Light Up: words of the cells that a cell sees, and runs that are safe.
use Rattle.fields_core.proofs.Common.{AreSafe, Bool, Candidates, IsColumnRun, IsLeast, IsRowRun, Layers, Light, List, and-false, and_parts, any_below, any_below-none, any_below-some, ap, arith, bit_of, cases_Bool, common_steps, cond, count_below, count_below-few, count_below-lt, count_below-pos, div-mul-add, eq-eqb, eqb, eqb-true, false, get_or, planes_have, has_bit, inl, inr, joined_in_column, joined_in_row, le-ltb, least_below, least_below-passes, length, length-map, light_cells, line_board, lt-ltb, ltb, ltb-true, map, mod-mul-add, not, not-false, place-in, refl, slice_index, suc, sym, true, true≢false, white, zero, ℕ, ◌%◌, ◌&&◌, ◌*◌, ◌+◌, ◌<◌, ◌∙◌, ◌≡◌, ◌≤◌}
use Rattle.fields_core.proofs.PlaceLists.{num}
use Rattle.fields_core.proofs.LightHouseLaws.{column-next, line-both, mul-inj}
use Rattle.fields_core.proofs.CellLemmas.{has-at, row-read, second-off}
use Rattle.fields_core.specs.declared.planes.light_up.waits.RunKind.TheVariants.{Columns, Rows}

-- Words of the cells that a cell of Light Up sees.

-- ---- the least place
pub some-least : (passes : ℕ → Bool) (n : ℕ) → any_below passes n ≡ true → (least : ℕ) × IsLeast passes n least
unfolding any_below
some-least passes zero on = absurd (true≢false (sym on))
some-least passes (suc n) on = elim (cases_Bool (any_below passes n)) [
  | inl some ↦
      let w = some-least passes n some in (w.0, record { within = omega (arith, w.1.within); has = w.1.has; before = w.1.before })
  | inr none ↦ (n, record { within = omega arith; has = rw none at on; before = any_below-none passes n none })
]

-- ---- two places
two-but : {passes : ℕ → Bool} (left : ℕ → Bool) {n least : ℕ} → IsLeast passes n least
    → ((k : ℕ) → left k ≡ (passes k && not (eqb k least))) → any_below left n ≡ ltb 1 (count_below passes n)
two-but {passes} left {n} {least} is rest = elim (cases_Bool (any_below left n)) [
  | inl on ↦
      let k = any_below-some left n on in let more = count_below-pos left n k.0 k.1 k.2 in
      let less = count_below-lt left passes n least (λ v _ there. (and_parts _ _ (sym (rest v) ∙ there)).0) is.within
      (rest least ∙ rw (eq-eqb least least refl) (and-false (passes least))) is.has in
      on ∙ sym (lt-ltb 1 (count_below passes n) (omega arith))
  | inr off ↦
      let one : (k : ℕ) → k < n → passes k ≡ true → k ≡ least = λ k lt on. eqb-true _ _ (not-false _ (second-off on (sym (rest k) ∙ any_below-none left n off k lt))) in
      let few = count_below-few passes n (λ j k lj lk on_j on_k. one j lj on_j ∙ sym (one k lk on_k)) in
      off ∙ sym (le-ltb _ _ few)
]

pub two-left : (passes left : ℕ → Bool) (n : ℕ) → any_below passes n ≡ true
    → ((least k : ℕ) → IsLeast passes n least → left k ≡ (passes k && not (eqb k least)))
    → any_below left n ≡ ltb 1 (count_below passes n)
two-left passes left n some rest = let w = some-least passes n some in two-but left w.1 (λ k. rest w.0 k w.1)

-- two that pass
pub two-places : (passes : ℕ → Bool) (n : ℕ) → 1 < count_below passes n
    → (j : ℕ) × (k : ℕ) × (j < k) × (k < n) × (passes j ≡ true) × (passes k ≡ true)
unfolding count_below
two-places passes zero many = absurd (omega arith)
two-places passes (suc n) many = elim (cases_Bool (passes n)) [
  | inl on ↦
      let more : 1 < count_below passes n + cond (passes n) 1 0 = many in
      let w = least_below-passes passes n (omega (arith, ap num on)) in
      (least_below passes n, n, w.0, omega arith, w.1, on)
  | inr off ↦ grind (arith, common_steps, two-places passes n (omega (arith, ap num off)))
]

-- Runs of Light Up with two cells that can have a bulb, or with one that must, as words.

-- ---- cells that can have a bulb
pub must-safe : {cells : ℕ → Bool} {K : Candidates} (c : ℕ) → cells c ≡ true → K c 1 ≡ true → K c 0 ≡ false → AreSafe cells K
must-safe c there on off = record { one = c; other = c; one_in = there; other_in = there; one_on = on; other_on = on; apart = inr off }

pub two-safe : {cells : ℕ → Bool} {K : Candidates} (c d : ℕ) → c < d → cells c ≡ true → cells d ≡ true → K c 1 ≡ true → K d 1 ≡ true → AreSafe cells K
two-safe c d less in_c in_d on_c on_d = grind (arith, common_steps)

-- the same of the cells of a line, as the board has them
safe-line : {cells : ℕ → Bool} {K : Candidates} (run empties bulbs : ℕ) (cell : ℕ → ℕ) → ((j k : ℕ) → cell j ≡ cell k → j ≡ k)
    → ((k : ℕ) → has_bit run k ≡ true → (cells (cell k) ≡ true) × (K (cell k) 0 ≡ has_bit empties k) × (K (cell k) 1 ≡ has_bit bulbs k))
    → AreSafe (has_bit run) (line_board empties bulbs) → AreSafe cells K
safe-line run empties bulbs cell own is safe =
    grind (arith, common_steps, safe.one, safe.one_in, safe.other, safe.other_in, safe.one_on, safe.other_on, safe.apart)

-- ---- the runs of a cell as words
module _ (p : Light) (y x : ℕ) (x_in : x < p.size.w) where
  abbrev cell : ℕ
  cell = y * p.size.w + x

  row-there : (run : ℕ) → IsRowRun p cell run → (k : ℕ) → has_bit run k ≡ true → (k < p.size.w) × (joined_in_row p cell (y * p.size.w + k) ≡ true)
  row-there run is k on = grind (arith, common_steps, and_parts, ltb-true, div-mul-add)

  module _ (planes : Layers) (size : planes.size ≡ p.size) (run zeros ones : ℕ) (safe : AreSafe (has_bit run) (line_board zeros ones)) where
    pub row-line : IsRowRun p cell run → ((k : ℕ) → has_bit zeros k ≡ bit_of planes.rows y 0 k) → ((k : ℕ) → has_bit ones k ≡ bit_of planes.rows y 1 k)
        → AreSafe (joined_in_row p cell) (planes_have planes)
    row-line is zeros_are ones_are = safe-line run zeros ones (λ k. y * p.size.w + k) (λ j k e. omega (arith, e))
        (λ k on.
        let there = row-there run is k on in
        let at : (v : ℕ) → v < 2 → planes_have planes (y * p.size.w + k) v ≡ bit_of planes.rows y v k = λ v low. has-at planes y k v (rw size refl) there.0 low in
        (there.1, at 0 (omega arith) ∙ sym (zeros_are k), at 1 (omega arith) ∙ sym (ones_are k))) safe

    pub column-line : IsColumnRun p cell run → ((k : ℕ) → has_bit zeros k ≡ bit_of planes.rows k 0 x) → ((k : ℕ) → has_bit ones k ≡ bit_of planes.rows k 1 x)
        → AreSafe (joined_in_column p cell) (planes_have planes)
    column-line is zeros_are ones_are = safe-line run zeros ones (λ k. k * p.size.w + x) (λ j k e. mul-inj {w = p.size.w} (omega (arith, x_in)) (omega (arith, e)))
        (λ k on.
        let joined = and_parts (ltb k p.size.h) (joined_in_column p cell (k * p.size.w + cell % p.size.w)) (sym (is k) ∙ on) in
        let at : (v : ℕ) → v < 2 → planes_have planes (k * p.size.w + x) v ≡ bit_of planes.rows k v x = λ v low. has-at planes k x v (rw size refl) x_in low in
        (rw (mod-mul-add y p.size.w x x_in) at joined.1, at 0 (omega arith) ∙ sym (zeros_are k), at 1 (omega arith) ∙ sym (ones_are k))) safe

-- the same of another cell that is joined to them
pub safe-moved : {joined other : ℕ → Bool} {K : Candidates} → ((c : ℕ) → joined c ≡ true → other c ≡ true) → AreSafe joined K → AreSafe other K
safe-moved move safe = grind (arith, common_steps)

-- of another cell of the run
pub row-moved : (p : Light) (y : ℕ) {x : ℕ} (k : ℕ) (x_in : x < p.size.w) (run : ℕ) → IsRowRun p (y * p.size.w + x) run → has_bit run k ≡ true → {K : Candidates}
    → AreSafe (joined_in_row p (y * p.size.w + x)) K → AreSafe (joined_in_row p (y * p.size.w + k)) K
row-moved p y {x} k x_in run is on safe = safe-moved (λ d joined. line-both p Rows (y * p.size.w + x) (y * p.size.w + k) d (row-there p y x x_in run is k on).1 joined) safe

-- ---- cells one above the other
module _ (p : Light) (c : ℕ) (some : 0 < p.size.w) (above : white p c ≡ true) (below : white p (c + p.size.w) ≡ true) where
  pub joined-down : (d : ℕ) → joined_in_column p c d ≡ true → joined_in_column p (c + p.size.w) d ≡ true
  joined-down d on = line-both p Columns c (c + p.size.w) d (column-next p c (c + p.size.w) some refl above below) on

-- ---- the word of a cell in a table of all cells
pub table-read : {W : Type 0} (bits : W → ℕ) (p : Light) (Is : ℕ → ℕ → Type 0) (words : List W) {y x : ℕ} (place : ℕ) {word : W}
    → light_cells p ≤ length (map bits words) → ((c : ℕ) → c < light_cells p → Is c (slice_index (map bits words) c))
    → y < p.size.h → x < p.size.w → place ≡ y * p.size.w + x → word ≡ get_or words place word → Is (y * p.size.w + x) (bits word)
table-read bits p Is words {y} {x} place {word} long each y_in x_in at read =
    let cell : y * p.size.w + x < light_cells p = place-in p.size.w p.size.h y x y_in x_in in
    let inside : y * p.size.w + x < length words = omega (arith, cell, long, length-map words bits) in
    rw (row-read bits words (y * p.size.w + x) word inside (rw at at read)) at (each (y * p.size.w + x) cell)
