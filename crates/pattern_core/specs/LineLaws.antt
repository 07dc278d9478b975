-- The rules of lines are lawful, by the laws of fillings and the places of lines.
use Rattle.std.proofs.lemmas.Bool.{cases_Bool, cases_lt, true≢false, true_from_ne_false, eqb-true, eq-eqb, lt-ltb}
use Rattle.std.proofs.lemmas.Grind.{common_steps}
use Rattle.std.proofs.Common.{◌≡◌, ℕ, zero, suc, ◌+◌, ◌-◌, ◌*◌, ◌/◌, ◌%◌, ◌<◌, ◌≤◌, true, not, ◌&&◌, eqb, List, slice_index, refl, sym, ap, ◌∙◌, arith, inl, inr, ◌⊎◌}
use Rattle.pattern_core.specs.Below.{AreDifferent, Extent, IsAlive, IsExtent, IsGrid, IsLawful, Pattern, after, all_of, count_below, has_place, line_numbers, line_places, lines_of, other_text, runs, same_text, share, strikes_at, strikes_by_fillings, sum_below}
use Rattle.std.proofs.lemmas.Nat.{mod-mul-add, div-mul-add}
use Rattle.std.proofs.lemmas.List.FromFn.{length-map-range_with_len}
use Rattle.std.proofs.Math.Nat.{mul-le-mul_right}
use Rattle.grid_core.proofs.BoardLemmas.{all_below-at, all_below-from, count_below-few, count_below-or, count_below-pos, is_dead-each}
use Rattle.grid_core.proofs.GridLemmas.{single-all, all-within}
use Rattle.grid_core.proofs.RegionLemmas.{column-places, row-places, length-line_places, place_in_column, place_in_row, line_numbers-column, line_numbers-row, line_numbers-places, few_cells}
use Rattle.engine_core.specs.PlaceLaws.{has_place-at, has_place-here}
use Rattle.engine_core.specs.HouseSetsLaws.{strikes_at-inside, strikes_at-in_scope, by_fillings-monotone, by_fillings-settled, by_fillings-closed}
use Rattle.pattern_core.specs.Lines.{clue_of, HasClue, has_runs}
use Rattle.pattern_core.specs.LineRules.{is_pattern_solution, line_rules}
use Rattle.pattern_core.specs.Solutions.{IsPatternSolution}

-- a cell in column x and row y lies in the grid, and no other column and row have its place
pub cell_in_grid : (size : Extent) (x y : ℕ) → x < size.w → y < size.h → y * size.w + x < size.w * size.h
cell_in_grid size x y ltx lty = grind (arith, common_steps, cases_Bool, mul-le-mul_right)

same_row : (w x y a b : ℕ) → x < w → a < w → y * w + x ≡ b * w + a → y ≡ b
same_row w x y a b ltx lta e = grind (arith, common_steps, cases_Bool, cases_lt, mul-le-mul_right)

-- a place of a column, and of a row
on_column : (size : Extent) (line c : ℕ) → line < size.w → has_place (line_places size line) c ≡ true → (y : ℕ) × (y < size.h) × (y * size.w + line ≡ c)
on_column size line c lt on = grind (arith, common_steps, cases_Bool, column-places, has_place-at, length-map-range_with_len, place_in_column)

on_row : (size : Extent) (line c : ℕ) → size.w ≤ line → has_place (line_places size line) c ≡ true → (x : ℕ) × (x < size.w) × ((line - size.w) * size.w + x ≡ c)
on_row size line c le on = grind (arith, common_steps, cases_Bool, has_place-at, length-map-range_with_len, place_in_row, row-places)

pub in_grid : (size : Extent) {line c : ℕ} → line < lines_of size → has_place (line_places size line) c ≡ true → c < size.w * size.h
in_grid size {line} {c} lt on = elim (cases_lt line size.w) [
  | inl column ↦ let w = on_column size line c column on in omega (arith, w.2, cell_in_grid size line w.0 column w.1)
  | inr row ↦ let w = on_row size line c row on in omega (arith, w.2, cell_in_grid size w.0 (line - size.w) w.1 (omega arith))
]

pub different_places : (size : Extent) (line : ℕ) → AreDifferent (line_places size line)
different_places size line j k lj lk e = elim (cases_lt line size.w) [
  | inl column ↦ grind (arith, common_steps, length-line_places, place_in_column, same_row)
  | inr row ↦ grind (arith, common_steps, length-line_places, place_in_row)
]

-- the place is in its column and in its row, and in no other line
pub column_has : (size : Extent) {x y : ℕ} → x < size.w → y < size.h → has_place (line_places size x) (y * size.w + x) ≡ true
column_has size {x} {y} ltx lty =
    rw (← place_in_column size x y ltx lty)
    (has_place-here (line_places size x) y (grind (arith, common_steps, length-line_places)))

pub row_has : (size : Extent) {x y : ℕ} → x < size.w → y < size.h → has_place (line_places size (size.w + y)) (y * size.w + x) ≡ true
row_has size {x} {y} ltx lty =
    let at = place_in_row size (size.w + y) x (omega arith) ltx ∙ ap (λ r. r * size.w + x) (let z : (size.w + y) - size.w ≡ y = omega arith in z) in
    rw (← at) (has_place-here (line_places size (size.w + y)) x (grind (arith, common_steps, length-line_places)))

pub lines_with : (size : Extent) (c line : ℕ) → has_place (line_places size line) c ≡ true → (line ≡ c % size.w) ⊎ (line ≡ size.w + c / size.w)
lines_with size c line on = grind (arith, common_steps, cases_lt, on_column, on_row, mod-mul-add, div-mul-add)

-- ---- the bound: a cell is in two lines at most
two_lines : (size : Extent) (c n : ℕ) → count_below (λ h. has_place (line_places size h) c) n ≤ 2
two_lines size c n =
    let both = count_below-or _ _ (λ h. has_place (line_places size h) c) n
    (λ h _ on. elim (lines_with size c h on) [ inl e ↦ inl (eq-eqb h _ e) | inr e ↦ inr (eq-eqb h (size.w + c / size.w) e) ]) in
    omega (arith, both, one (c % size.w), one (size.w + c / size.w))
  where
    one : (a : ℕ) → count_below (λ h. eqb h a) n ≤ 1
    one a = count_below-few _ n (λ k j _ _ ek ej. eqb-true k a ek ∙ sym (eqb-true j a ej))

few_shares : (p : Pattern) (n : ℕ) → sum_below (λ c. (2 - 1) * share (line_rules p) c) n ≤ n
unfolding sum_below share
few_shares p zero = omega arith
few_shares p (suc n) = omega (arith, few_shares p n, two_lines p.size n (lines_of p.size))

-- ---- solutions
pub has_runs-is : (clue cells : List ℕ) → has_runs clue cells ≡ true → runs cells ≡ clue
unfolding has_runs
has_runs-is clue cells on = same_text (runs cells) clue (sym on)

pub has_runs-from : {clue : List ℕ} (cells : List ℕ) → runs cells ≡ clue → has_runs clue cells ≡ true
unfolding has_runs
has_runs-from {clue} cells is = true_from_ne_false (has_runs clue cells) (λ off. other_text (runs cells) clue (sym off) is)

pub solution_from_lines : {p : Pattern} {g : List ℕ} → IsGrid (p.size.w * p.size.h) 2 g
    → ((line : ℕ) → line < lines_of p.size → HasClue p g line) → IsPatternSolution p g
solution_from_lines grid each = grind (arith, common_steps, cases_Bool, line_numbers-column, line_numbers-row)

pub line_of_solution : {p : Pattern} {g : List ℕ} (line : ℕ) → line < lines_of p.size → IsPatternSolution p g → HasClue p g line
line_of_solution line lt s = grind (arith, common_steps, cases_Bool, cases_lt, line_numbers-column, line_numbers-row)

-- the test of a grid is met by the solutions alone
pub is_solution-line : (p : Pattern) (g : List ℕ) {line : ℕ} → is_pattern_solution p g ≡ true → line < lines_of p.size
    → has_runs (clue_of p line) (line_numbers p.size g line) ≡ true
unfolding is_pattern_solution
is_solution-line p g {line} on lt = all_below-at (λ h. has_runs (clue_of p h) (line_numbers p.size g h)) _ line on lt

pub is_solution-each : (p : Pattern) (g : List ℕ) → ((line : ℕ) → line < lines_of p.size → HasClue p g line) → is_pattern_solution p g ≡ true
unfolding is_pattern_solution
is_solution-each p g each = grind (arith, common_steps, cases_Bool, all_below-from, has_runs-from)

pub is_solution-is : (p : Pattern) (g : List ℕ) → IsGrid (p.size.w * p.size.h) 2 g → is_pattern_solution p g ≡ true → IsPatternSolution p g
is_solution-is p g grid on = solution_from_lines grid
    (λ line lt. has_runs-is (clue_of p line) _ (is_solution-line p g on lt))

pub is_solution-from : (p : Pattern) (g : List ℕ) → IsPatternSolution p g → is_pattern_solution p g ≡ true
is_solution-from p g s = is_solution-each p g (λ line lt. line_of_solution line lt s)

-- ---- the laws
pub line_rules-alive : (p : Pattern) → IsAlive (line_rules p) (line_rules p).start
unfolding all_of
line_rules-alive p = is_dead-each (p.size.w * p.size.h) 2 (line_rules p).start (λ c lt.
    count_below-pos ((line_rules p).start c) 2 0 (omega arith) (grind (arith, common_steps, lt-ltb)))

pub line_rules-lawful : (p : Pattern) → IsExtent p.size → IsLawful (line_rules p)
unfolding after
line_rules-lawful p extent = record {
  strikes_inside =
      λ h K L lt inside c v struck. strikes_at-inside 2 _
      (strikes_by_fillings (has_runs (clue_of p h))) (by_fillings-monotone (has_runs (clue_of p h)))
      K L inside c v struck;
  strikes_in_scope = λ h K c v lt. strikes_at-in_scope 2 (line_places p.size h) (strikes_by_fillings (has_runs (clue_of p h))) K c v;
  solutions_start = λ g grid good. single-all grid;
  solutions_closed = λ g grid good h c v lt on.
      by_fillings-closed 2 (line_places p.size h) (has_runs (clue_of p h)) g
      (λ k less. let e = grid.each_cell in let z =
      in_grid p.size {c = slice_index (line_places p.size h) k} lt
      (has_place-here _ k less) in omega arith) (λ d less. grid.each_value d 0 less)
      (ap (has_runs (clue_of p h)) (line_numbers-places p.size g h) ∙ is_solution-line p g good lt) c v on;
  settles = λ settled h K c v lt _ on.
      by_fillings-settled 2 (line_places p.size h) (has_runs (clue_of p h)) K
      (λ d u. K d u && not (strikes_at 2 (line_places p.size h)
      (strikes_by_fillings (has_runs (clue_of p h))) K d u)) (different_places p.size h)
      (λ d u. refl) c v on;
  bound_of_queue = λ e. omega (arith, few_shares p (p.size.w * p.size.h));
  bound_of_sweeps = λ e. absurd (true≢false e);
  some_values = omega arith;
  few_values = omega arith;
  few_cells = few_cells p.size extent;
  start_within = all-within 2;
  scope_within = λ h c. in_grid p.size;
  scope_distinct = λ h j k lt. different_places p.size h j k;
}
