-- The tests of all lines, and the first line that fails.
use Rattle.pattern_core.proofs.Common.{AllByRecursion, Bool, HasClue, IsClosedGrid, List, Pattern, Some, [], all_below-from, ap, arith, by_fillings-met, cases_lt, clue_of, common_steps, different_places, false, has_place-here, has_runs, has_runs-from, has_runs-is, in_grid, inl, inr, is_solution-line, length, length-line_places, line_numbers, line_numbers-places, line_of_solution, line_places, line_rules, lines_of, slice_index, solution_from_lines, sym, true, true≢false, ℕ, ◌*◌, ◌++◌, ◌+◌, ◌-◌, ◌<◌, ◌∙◌, ◌∷◌, ◌≡◌}
use Rattle.pattern_core.specs.LineRules.{LawfulPattern, is_pattern_solution}
use Rattle.grid_core.specs.Grids.{IsGrid}
use Rattle.gameid_core.specs.FirstFailed.{NoneFails}
use Rattle.gameid_core.proofs.FirstFailed.{IsKnown, IsKindMade, TestKind, all_each, each, first_each, first_front, first_rest, known_tests, none_held, right_none}
use Rattle.pattern_core.specs.Solutions.{FailsPattern, IsPatternFault, IsPatternSolution, pattern_tests}
use Rattle.pattern_core.specs.declared.fault.PatternFault.{PatternFault}
use Rattle.pattern_core.specs.declared.fault.PatternFault.TheVariants.{Column, Row}

-- The tests of all lines.

-- what the tests of all lines say
pub ruleset line_tests = (is_solution-line, all_below-from, has_runs-is, has_runs-from, solution_from_lines)

-- a grid from which no line strikes anything
pub closed_solution : (r : LawfulPattern) {g : List ℕ} → IsClosedGrid (line_rules r.pattern) g → is_pattern_solution r.pattern g ≡ true
unfolding is_pattern_solution
closed_solution r {g} grid =
    let p = r.pattern in
    all_below-from _ (lines_of p.size) (λ line lt.
    let places = line_places p.size line in
    let some : 0 < length places = grind (arith, common_steps, r.extent, length-line_places) in
    ap (has_runs (clue_of p line)) (sym (line_numbers-places p.size g line))
    ∙ by_fillings-met 2 places (has_runs (clue_of p line)) g (different_places p.size line) some
    (λ k less. let z = in_grid p.size {c = slice_index places k} lt (has_place-here places k less) in omega (arith, grid.fits.each_cell))
    (λ c less. grid.fits.each_value c 0 less) (λ c v. grid.closed line c v lt))

-- A grid that no test of a line fails is a solution, and the first line that fails is what a check tells.

module _ (p : Pattern) (g : List ℕ) where
  abbrev is_right : ℕ → Bool
  is_right line = has_runs (clue_of p line) (line_numbers p.size g line)

  pub not_right : (line : ℕ) → is_right line ≡ false → HasClue p g line → ⊥
  not_right line off has = true≢false (sym (has_runs-from _ has) ∙ off)

  right : (line : ℕ) → is_right line ≡ true → HasClue p g line
  right line on = has_runs-is (clue_of p line) _ on

  abbrev columns : TestKind PatternFault
  columns = record { test = Column; count = p.size.w; right = is_right }

  abbrev rows : TestKind PatternFault
  rows = record { test = Row; count = p.size.h; right = λ y. is_right (p.size.w + y) }

  made : AllByRecursion (IsKindMade (FailsPattern p g)) (columns ∷ rows ∷ [])
  made = (
    record { failed = λ x lt. not_right x; held = λ x lt on fails. fails (right x on) },
    (record { failed = λ y lt. not_right (p.size.w + y); held = λ y lt on fails. fails (right (p.size.w + y) on) }, tt),
  )

  pub pattern_sound : IsGrid (p.size.w * p.size.h) 2 g → NoneFails (FailsPattern p g) (pattern_tests p) → IsPatternSolution p g
  pattern_sound grid none = solution_from_lines grid each_line
    where
      each_line : (line : ℕ) → line < lines_of p.size → HasClue p g line
      each_line line lt =
          let both = right_none _ (columns ∷ rows ∷ []) made none in
          elim (cases_lt line p.size.w) [
            | inl column ↦ right line (both.0 line column)
            | inr row ↦ let back : p.size.w + (line - p.size.w) ≡ line = omega arith in
                rw back at (right (p.size.w + (line - p.size.w)) (both.1.0 (line - p.size.w) (omega arith)))
          ]

  pub pattern_none : IsPatternSolution p g → NoneFails (FailsPattern p g) (pattern_tests p)
  pattern_none s = none_held _ (columns ∷ rows ∷ [])
      ((λ x lt fails. fails (line_of_solution x (omega arith) s)), ((λ y lt fails. fails (line_of_solution (p.size.w + y) (omega arith) s)), tt))

  pub pattern_known : AllByRecursion (IsKnown (FailsPattern p g)) (pattern_tests p)
  pattern_known = known_tests _ (columns ∷ rows ∷ []) made

  -- ---- the first line that fails
  pub first_column : (x : ℕ) → x < p.size.w → (HasClue p g x → ⊥) → ((k : ℕ) → k < x → HasClue p g k) → IsPatternFault p g (Some (Column x))
  first_column x lt wrong before = first_front _ (each columns) (each rows ++ []) (Column x)
      (first_each _ columns x lt wrong (λ k low fails. fails (before k low)))

  pub first_row : {line : ℕ} (y : ℕ) → line ≡ p.size.w + y → y < p.size.h → (HasClue p g line → ⊥)
      → ((k : ℕ) → k < line → HasClue p g k) → IsPatternFault p g (Some (Row y))
  first_row y is lt wrong before = first_rest _ (each columns) (each rows ++ []) (Row y)
      (all_each _ columns (λ x low fails. fails (before x (omega arith))))
      (first_front _ (each rows) [] (Row y) (first_each _ rows y lt (rw is at wrong)
      (λ k low fails. fails (before (p.size.w + k) (omega arith)))))

pub ruleset fault_laws = (first_column, first_row, has_runs-is, has_runs-from, solution_from_lines)
