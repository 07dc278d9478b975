-- The clues of lines, and what their runs are.
use Rattle.std.specs.Prelude.{Bool, List, [], length, nat_eq, slice_index_or, ℕ, ◌+◌, ◌<◌, ◌≡◌, ◌≤◌}
use Rattle.pattern_core.specs.Below.{AllByRecursion, IsDecided, Pattern, line_numbers, pointwise, runs, strikes_by_fillings, used}

-- the clue of a line
abbrev pub clue_of : Pattern → ℕ → List ℕ
clue_of p line = slice_index_or p.clues line []

-- the line's runs are its clue
abbrev pub HasClue : Pattern → List ℕ → ℕ → Type 0
HasClue p g line = runs (line_numbers p.size g line) ≡ clue_of p line

-- whether the runs of the cells are the clue
unfoldable pub has_runs : List ℕ → List ℕ → Bool
has_runs clue cells = pointwise nat_eq (runs cells) clue

-- each run of the clue has a cell
abbrev pub ArePositive : List ℕ → Type 0
ArePositive clue = AllByRecursion (λ n. 0 < n) clue

-- the clue has a run, and a line of n cells is longer than the clue needs by as much as each run is
pub record IsRoomy (clue : List ℕ) (n : ℕ) : Type 0 where
  pub some : 0 < length clue
  pub positive : ArePositive clue
  pub spare : ℕ
  pub more : 0 < spare
  pub short : AllByRecursion (λ m. m ≤ spare) clue
  pub fits : used clue + spare ≤ n + 1

-- a line of so many cells is roomy, and each longer one
abbrev pub IsRoomyFrom : List ℕ → ℕ → Type 0
IsRoomyFrom clue from = (n : ℕ) → n < 1000 → from ≤ n → IsRoomy clue n

-- what is kept of a line's sets is what some filling with the clue's runs has
abbrev pub IsDecidedBy : List ℕ → List ℕ → List ℕ → Type 0
IsDecidedBy clue sets kept = IsDecided 2 (strikes_by_fillings (has_runs clue)) sets kept
