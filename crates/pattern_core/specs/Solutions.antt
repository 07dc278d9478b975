-- Which grids solve a puzzle of Pattern, and what is wrong with the others.
use Rattle.std.specs.Prelude.{IsTrue, List, Option, [], slice_index_or, ℕ, ◌*◌, ◌+◌, ◌<◌, ◌↔◌, ◌∷◌, ◌≡◌}
use Rattle.pattern_core.specs.Below.{IsGrid, Pattern, RuleSystem, column_cells, row_cells, runs}
use Rattle.gameid_core.specs.FirstFailed.{IsAnswerOfCheck, tests_of}
use Rattle.pattern_core.specs.Lines.{HasClue}
use Rattle.pattern_core.specs.declared.fault.PatternFault.{PatternFault}
use Rattle.pattern_core.specs.declared.fault.PatternFault.TheVariants.{Column, Row}

-- Which grids solve a puzzle of Pattern. A grid has 0 for a white cell and 1 for a black one.

-- the lengths of the maximal black runs of each column, downwards, and of each row, rightwards, are its clue
pub record IsPatternSolution (p : Pattern) (g : List ℕ) : Type 0 where
  pub grid : IsGrid (p.size.w * p.size.h) 2 g
  pub columns : (x : ℕ) → x < p.size.w
      → runs (column_cells p.size g x) ≡ slice_index_or p.clues x []
  pub rows : (y : ℕ) → y < p.size.h
      → runs (row_cells p.size g y) ≡ slice_index_or p.clues (p.size.w + y) []

-- the grids that the rules accept are the solutions of the puzzle
abbrev pub AcceptsSolutions : Pattern → RuleSystem → Type 0
AcceptsSolutions p rules = (g : List ℕ) → IsGrid (p.size.w * p.size.h) 2 g
    → (IsTrue (rules.is_solution g)) ↔ IsPatternSolution p g

-- What is wrong with a grid of Pattern: the first line whose runs are not its clue, the columns from the left, and then the
-- rows from the top.

-- a line whose runs are not its clue
abbrev pub FailsPattern : Pattern → List ℕ → PatternFault → Type 0
FailsPattern p g (Column x) = HasClue p g x → ⊥
FailsPattern p g (Row y) = HasClue p g (p.size.w + y) → ⊥

abbrev pub pattern_tests : Pattern → List PatternFault
pattern_tests p = tests_of ((Column, p.size.w) ∷ (Row, p.size.h) ∷ [])

abbrev pub IsPatternFault : Pattern → List ℕ → Option PatternFault → Type 0
IsPatternFault p g fault =
    IsAnswerOfCheck (IsPatternSolution p g) (FailsPattern p g) (pattern_tests p) fault
