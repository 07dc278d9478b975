-- Pattern: cells that are drawn, grids of one colour, and the puzzle of a grid.
use Rattle.maker_core.proofs.Common.{All-append, All-cons, All-from_get_or, All-nil, AreAll, Bool, Candidates, Extent, IsClosed, IsExtent, IsGrid, IsPatternSolution, List, Pattern, Stream, [], add-one, ap, arith, at_row, black_cells, cell_in_grid, closure_closed, clue_of, clued_by, common_steps, cond, count_by-le-length, different_places, div-add-mod', div_below, draw_below, elements, false, get_or-le-sum_by, get_or-map-range_with_len, has_one, has_runs, has_runs-is, inl, inr, is_one, is_solution-from, le-ltb, length, length-append, length-line_places, length-map-range_with_len, length-set, length-sets_at, line_numbers, line_places, line_rules, line_rules-lawful, lines_of, lt-ltb, mod_below, nat_lt, place_in_row, refl, row_cells, run_of, runs, runs_after, set, sets_at, shown_from_test, slice_index, slice_set, strikes_at, strikes_at-place, strikes_by_fillings, suc, sum, sum_by, sum_by-append, sum_by-cons, sum_by-le, sum_by-set, sym, take, take_more_set, true, zero, ℕ, ◌%◌, ◌*◌, ◌++◌, ◌+◌, ◌-◌, ◌/◌, ◌<◌, ◌∙◌, ◌∷◌, ◌≡◌, ◌≤◌, ◌⊎◌}
use Rattle.maker_core.proofs.FirstTries.{found_at_once}
use Rattle.pattern_core.specs.LineLaws.{solution_from_lines}

-- The cells of a grid that were drawn so far are the list of draws.

-- the steps of the drawing
black_cells-none : (black : ℕ) {s : Stream} → ([], s) ≡ black_cells black 0 s
unfolding black_cells
black_cells-none black = refl

black_cells-more : (black k d : ℕ) (s t u : Stream) {xs : List ℕ}
    → (xs, t) ≡ black_cells black k s → (d, u) ≡ draw_below 100 t
    → (xs ++ cond (nat_lt d black) 1 0 ∷ [], u) ≡ black_cells black (k + 1) s
unfolding black_cells
black_cells-more black k d s t u before drawn = rw (add-one, sym before, sym drawn) refl

-- the cells below `place` hold what was drawn, and the generator stands after those draws
pub record IsPartDrawn (black cells place : ℕ) (s now : Stream) (grid : List ℕ) : Type 0 where
  pub long : length grid ≡ cells
  pub drawn : (take place grid, now) ≡ black_cells black place s
  pub white : black ≡ 0 → (k : ℕ) → k < place → slice_index grid k ≡ 0
  pub full : black ≡ 100 → (k : ℕ) → k < place → slice_index grid k ≡ 1

pub IsPartDrawn-none : {black cells : ℕ} {s : Stream} {grid : List ℕ} → length grid ≡ cells → IsPartDrawn black cells 0 s s grid
IsPartDrawn-none {black} long = grind (arith, common_steps, black_cells-none)

pub IsPartDrawn-more : {black cells place d v : ℕ} {s now u : Stream} {grid : List ℕ}
    → IsPartDrawn black cells place s now grid → (d, u) ≡ draw_below 100 now → d < 100 → v ≡ cond (nat_lt d black) 1 0 → place < cells
    → IsPartDrawn black cells (place + 1) s u (slice_set grid place v)
IsPartDrawn-more {black} {place} {d} {v} {s} {now} {u} {grid} before draw below value within =
    let inside : place < length grid = omega (arith, before.long) in
    record {
      long = grind (arith, common_steps, before.long);
      drawn =
          ap (λ xs. (xs, u)) (take_more_set grid place v inside ∙ ap (λ w. take place grid ++ w ∷ []) value)
          ∙ black_cells-more black place d s now u before.drawn draw;
      white = λ e k lt. grind (arith, elements, before.white e k);
      full = λ e k lt. grind (arith, elements, before.full e k);
    }

pub IsPartDrawn-all : {black cells : ℕ} {s now : Stream} {grid : List ℕ} → IsPartDrawn black cells cells s now grid
    → (grid, now) ≡ black_cells black cells s
IsPartDrawn-all {cells} {grid} all = grind (arith, common_steps)

-- one more cell, of 0 or 1
pub bit_below : (b : Bool) → cond b 1 0 < 2
bit_below b = grind arith

-- so many cells are drawn, each 0 or 1
pub black_cells-grid : (black cells : ℕ) (s : Stream) → IsGrid cells 2 (black_cells black cells s).0
unfolding black_cells
black_cells-grid black zero s = record { each_cell = refl; each_value = λ k d lt. absurd (omega arith) }
black_cells-grid black (suc cells) s =
    let before = black_cells-grid black cells s in
    let b = nat_lt (draw_below 100 (black_cells black cells s).1).0 black in
    record {
      each_cell = length-append (black_cells black cells s).0 (cond b 1 0 ∷ []) ∙ ap (λ n. n + 1) before.each_cell ∙ add-one cells;
      each_value = All-append (λ v. v < 2) (black_cells black cells s).0 (cond b 1 0 ∷ []) before.each_value
          (All-cons (λ v. v < 2) (cond b 1 0) [] (bit_below b) (All-nil (λ v. v < 2)));
    }

-- A grid of white cells alone, or of black cells alone, is all that one visit of each row leaves.

-- 1 for a black cell, and how many cells are black
abbrev black : ℕ → ℕ
black v = cond (nat_lt 0 v) 1 0

abbrev blacks : List ℕ → ℕ
blacks cells = sum_by black cells

-- the runs' lengths together are the black cells
total-run : (k : ℕ) → sum (run_of k) ≡ k
total-run zero = refl
total-run (suc k) = omega arith

total-runs : (k : ℕ) (cells : List ℕ) → sum (runs_after k cells) ≡ k + blacks cells
unfolding runs_after
total-runs zero [] = refl
total-runs (suc k) [] = omega arith
total-runs k (zero ∷ cells) =
    omega (arith, sum_by-append (λ x. x) (run_of k) (runs_after 0 cells), total-run k, total-runs 0 cells, sum_by-cons black zero cells)
total-runs k (suc v ∷ cells) = grind (arith, total-runs (suc k) cells, sum_by-cons black (suc v) cells, lt-ltb 0 (suc v))

-- no cell is black, or each
no_black : (cells : List ℕ) → blacks cells ≡ 0 → (k : ℕ) → k < length cells → slice_index cells k ≡ 0
no_black cells e k lt = grind (arith, get_or-le-sum_by black cells k 0 lt)

each_black : (cells : List ℕ) → blacks cells ≡ length cells → (k : ℕ) → k < length cells → 1 ≤ slice_index cells k
each_black cells e k lt =
    grind (arith, sum_by-set black cells k 1 0 lt, count_by-le-length (nat_lt 0) (set cells k 1), length-set cells k 1)

blacks-none : (cells : List ℕ) → AreAll 0 cells → blacks cells ≡ 0
blacks-none cells all = grind (arith, sum_by-le black 0 cells (All-from_get_or (λ v. black v ≤ 0) cells 0 (λ k lt. grind (arith, all k lt))))

blacks-all : (cells : List ℕ) → AreAll 1 cells → blacks cells ≡ length cells
blacks-all [] all = refl
blacks-all (v ∷ cells) all =
    grind (arith, sum_by-cons black v cells, blacks-all cells (λ k lt. all (suc k) (omega arith)), all 0 (omega arith))

-- lists of the same runs have as many black cells
same_blacks : (xs ys : List ℕ) → runs xs ≡ runs ys → blacks xs ≡ blacks ys
same_blacks xs ys e =
    omega (arith, total-runs 0 xs, total-runs 0 ys, ap sum e)

-- so a line of one colour is told by its runs
pub white_line : (line cells : List ℕ) → AreAll 0 line → runs cells ≡ runs line → AreAll 0 cells
white_line line cells all e = no_black cells (same_blacks cells line e ∙ blacks-none line all)

pub black_line : (line cells : List ℕ) → AreAll 1 line
    → length cells ≡ length line → runs cells ≡ runs line → (k : ℕ) → k < length cells → 1 ≤ slice_index cells k
black_line line cells all long e = each_black cells (same_blacks cells line e ∙ blacks-all line all ∙ sym long)

-- ---- the row of a cell
row_all : (size : Extent) (g : List ℕ) {y b : ℕ} → length g ≡ size.w * size.h → y < size.h → AreAll b g → AreAll b (row_cells size g y)
row_all size g {y} long lty all k lt = grind (arith, common_steps, length-map-range_with_len, cell_in_grid, get_or-map-range_with_len)

-- a filling that shows a value that a closed board still has
shown : (size : Extent) (g : List ℕ) (E : Candidates) (c v : ℕ) → IsExtent size → IsClosed (line_rules (clued_by size g)) E → c < size.w * size.h → E c v ≡ true
    → (cells : List ℕ) × (runs cells ≡ runs (row_cells size g (c / size.w))) × (length cells ≡ size.w) × (slice_index cells (c % size.w) ≡ v)
shown size g E c v extent closed lt on =
    let low : c / size.w < size.h = div_below c size.w size.h extent.w_low (omega arith) in
    let left : c % size.w < size.w = mod_below c size.w extent.w_low in
    let line : ℕ = size.w + c / size.w in
    let past : size.w ≤ line = omega arith in
    let back : line - size.w ≡ c / size.w = omega arith in
    let below : line < lines_of size = omega arith in
    let places : List ℕ = line_places size line in
    let long : length places ≡ size.w = length-line_places size line ∙ rw (le-ltb line size.w past) refl in
    let cell : slice_index places (c % size.w) ≡ c =
    place_in_row size line (c % size.w) past left ∙ ap (λ y. y * size.w + c % size.w) back ∙ div-add-mod' c size.w in
    let within : c % size.w < length places = omega arith in
    let clue : List ℕ = clue_of (clued_by size g) line in
    let not_struck : strikes_at 2 places (strikes_by_fillings (has_runs clue)) E (slice_index places (c % size.w)) v ≡ false =
    ap (λ d. strikes_at 2 places (strikes_by_fillings (has_runs clue)) E d v) cell ∙ closed line c v below on in
    let decided : strikes_by_fillings (has_runs clue) (sets_at 2 places E) (c % size.w) v ≡ false =
    sym (strikes_at-place 2 places (strikes_by_fillings (has_runs clue)) E (c % size.w) v (different_places size line) within) ∙ not_struck in
    let w = shown_from_test (has_runs clue) (sets_at 2 places E) (c % size.w) v decided in (
      w.0,
      has_runs-is clue w.0 w.1.holds_true ∙ at_row runs [] size g (c / size.w) low,
      w.1.fills.len ∙ length-sets_at 2 places E ∙ long,
      w.1.has_it,
    )

pub plain_alone : (size : Extent) (g : List ℕ) (E : Candidates) (c v : ℕ) → IsExtent size → length g ≡ size.w * size.h → AreAll 0 g ⊎ AreAll 1 g
    → IsClosed (line_rules (clued_by size g)) E → c < size.w * size.h → v < 2 → E c v ≡ true → v ≡ slice_index g c
plain_alone size g E c v extent long plain closed lt few on =
    let low : c / size.w < size.h = div_below c size.w size.h extent.w_low (omega arith) in
    let left : c % size.w < size.w = mod_below c size.w extent.w_low in
    let inside : c < length g = omega arith in
    let w = shown size g E c v extent closed lt on in
    let row : List ℕ = row_cells size g (c / size.w) in
    let row_long : length row ≡ size.w = length-map-range_with_len (λ x. slice_index g (c / size.w * size.w + x)) 0 size.w in
    let k : c % size.w < length w.0 = omega (arith, w.2) in
    elim plain [
      | inl white ↦ sym w.3 ∙ white_line row w.0 (row_all size g long low white) w.1 (c % size.w) k ∙ sym (white c inside)
      | inr black ↦
          let high : 1 ≤ slice_index w.0 (c % size.w) =
          black_line row w.0 (row_all size g long low black) (w.2 ∙ sym row_long) w.1 (c % size.w) k in
          let is = w.3 in
          let one : v ≡ 1 = omega arith in
          one ∙ sym (black c inside)
    ]

-- the verdict of such a grid's puzzle is one
pub plain_passes : {size : Extent} {g : List ℕ} (budget : ℕ) → IsExtent size → IsPatternSolution (clued_by size g) g → AreAll 0 g ⊎ AreAll 1 g
    → has_one (line_rules (clued_by size g)) budget ≡ true
plain_passes {size} {g} budget extent good plain =
    let p = clued_by size g in
    let laws = line_rules-lawful p extent in
    let start = (line_rules p).start in
    ap is_one (found_at_once laws (record { grid = good.grid; good = is_solution-from p g good })
    (λ c v. plain_alone size g _ c v extent good.grid.each_cell plain
    (closure_closed _ start laws.start_within)) budget)

-- A grid is a solution of the puzzle of its runs.
pub pattern_solved : (size : Extent) (g : List ℕ) (p : Pattern) → p ≡ clued_by size g → IsGrid (size.w * size.h) 2 g → IsPatternSolution p g
pattern_solved size g p is grid =
    rw is (solution_from_lines grid (λ line lt. sym (get_or-map-range_with_len (λ k. runs (line_numbers size g k)) 0 _ line line [] lt (omega arith))))

-- what the making of a puzzle of a grid cites
pub ruleset pattern_laws = (pattern_solved)
