-- What a maker of Pattern tries, and what it gives.
use Rattle.std.specs.Prelude.{◌≡◌, ◌≤◌, ◌*◌, ◌⊎◌, ℕ, Bool, List, []}
use Rattle.maker_core.specs.Below.{Extent, IsPatternSolution, Pattern, Stream, line_rules, lines_runs}
use Rattle.maker_core.specs.Draws.{AllFail, Making, Tries, black_cells, IsFirstPassing, filling_at}
use Rattle.maker_core.specs.Made.{has_one, TellsOne, IsOnlySolution}
use Rattle.maker_core.specs.declared.made.Kept.{Kept}
use Rattle.maker_core.specs.declared.made.Limits.{Limits}
use Rattle.maker_core.specs.declared.made.Made.{Made}
use Rattle.maker_core.specs.declared.made.MakeFault.{MakeFault}
use Rattle.maker_core.specs.declared.made.MakeFault.TheVariants.{Exhausted, Memory, SizeRange}

-- a filling is a grid whose cells are drawn one by one
abbrev pub pattern_filling : Extent → ℕ → Making (List ℕ)
pattern_filling size black = black_cells black (size.w * size.h)

-- the puzzle of a grid: the clue of each line is its runs
abbrev pub clued_by : Extent → List ℕ → Pattern
clued_by size g = record { size = size; clues = lines_runs size g }

-- a filling passes where the verdict of its puzzle is one
abbrev pub pattern_passes : Extent → ℕ → List ℕ → Bool
pattern_passes size budget g = has_one (line_rules (clued_by size g)) budget

-- The first of the fillings that passes gives the solution, and its lines the clues; it is the only solution, and the
-- verdict says so. Clues are not thinned.
pub record IsPatternMade (size : Extent) (black budget tries : ℕ) (s : Stream)
    (p : Pattern) (g : List ℕ) (kept : List Kept) : Type 0 where
  pub k : ℕ
  pub first : IsFirstPassing (pattern_filling size black) (pattern_passes size budget) s tries k
  pub filled : g ≡ filling_at (pattern_filling size black) k s
  pub clues : p ≡ clued_by size g
  pub only : IsOnlySolution (IsPatternSolution p) g
  pub verdict : TellsOne (line_rules p) budget g
  pub unthinned : kept ≡ []

-- what a maker tries and gives within its limits
abbrev pub pattern_tries : Extent → ℕ → Limits → Tries (List ℕ)
pattern_tries size black limits = record {
  make = pattern_filling size black;
  passes = pattern_passes size limits.budget;
  count = limits.tries;
  ends = λ grid s. s;
}

abbrev pub MakesPattern : Extent → ℕ → Limits → Stream → Made Pattern → Type 0
MakesPattern size black limits s made =
    IsPatternMade size black limits.budget limits.tries s made.puzzle made.answer made.kept.items

-- Why it gives nothing: no try passes, and one is made of more than one colour; or a try had no memory.
abbrev pub IsPatternUnmade : Extent → ℕ → Limits → Stream → MakeFault → Type 0
IsPatternUnmade size black limits s SizeRange = ⊥
IsPatternUnmade size black limits s Exhausted = AllFail (pattern_tries size black limits) s
    × (1 ≤ limits.tries → (black ≡ 0) ⊎ (black ≡ 100) → ⊥)
IsPatternUnmade size black limits s Memory = 1 ≤ limits.tries
