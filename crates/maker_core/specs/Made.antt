-- When a filling passes, and what a maker of puzzles gives.
use Rattle.std.specs.Prelude.{◌≡◌, ℕ, Bool, true, false, List}
use Rattle.maker_core.specs.Below.{IsTrueOf, Outcome, Outcome.GaveUp, Outcome.NoSolution, Outcome.OneSolution, Outcome.SeveralSolutions, RuleSystem, verdict_of}

-- whether a verdict is that there is one grid
abbrev pub is_one : Outcome → Bool
is_one NoSolution = false
is_one (OneSolution first) = true
is_one (SeveralSolutions first second) = false
is_one (GaveUp first) = false

-- whether the rules' verdict with that budget is one
abbrev pub has_one : RuleSystem → ℕ → Bool
has_one rules budget = is_one (verdict_of rules budget)

-- the verdict with the budget is that the grid is the one solution
abbrev pub TellsOne : RuleSystem → ℕ → List ℕ → Type 0
TellsOne rules budget g = verdict_of rules budget ≡ OneSolution g

-- so it is of some grid, which is a solution, and no other is
pub record HasOne (rules : RuleSystem) (budget : ℕ) : Type 0 where
  pub answer : List ℕ
  pub found : TellsOne rules budget answer
  pub only : IsTrueOf rules (OneSolution answer)

-- the grid is a solution and no other is
abbrev pub IsOnlySolution : (List ℕ → Type 0) → List ℕ → Type 0
IsOnlySolution solves g = solves g × ((h : List ℕ) → solves h → h ≡ g)
