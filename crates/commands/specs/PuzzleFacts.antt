-- The words in which the commands speak of a game and of its puzzles. The contracts of the traits tie
-- them to one another.
use Rattle.std.specs.Prelude.{ℕ, List, Result, ◌↔◌}
use Rattle.commands.specs.Common.{Extent, RuleSystem, SizeRead, IdFault, grid_text, Solves}
use Rattle.commands.specs.Answers.{Answer, Text}
use Rattle.commands.specs.Grades.{NamedRules}
use Rattle.commands.specs.Makings.{MadePuzzle, Wanted}

-- the grids that the rules accept are the solutions
abbrev pub Accepts : RuleSystem → (List ℕ → Type 0) → Type 0
Accepts rules solves = (g : List ℕ) → (Solves rules g ↔ solves g)

pub record GameFacts (P : Type 0) : Type 1 where
  -- the puzzle that a text spells, or its first fault; `Played::read_id` gives a puzzle by `spells`
  -- and a fault by this
  pub reading : Text → Result P IdFault
  -- the text spells the puzzle
  pub spells : Text → P → Type 0
  -- the ID that is written for a puzzle
  pub written : P → Text
  -- the solutions, the rules that a search goes by, and what a check answers to a grid
  pub solves : P → List ℕ → Type 0
  pub rules : P → RuleSystem
  pub checks : P → List ℕ → Answer → Type 0
  -- the rule sets that are tried in turn, and the name of the house with that number, the same in all
  -- of them: empty where closings go by sweeps, whose traces name no house
  pub sets : P → List NamedRules
  pub visit_name : P → ℕ → Text
  -- the size that a text is, within the limits of what is made, or its first fault
  pub sizes : Text → Result SizeRead IdFault
  -- this is made of the size, or no try makes a puzzle of it
  pub makes : SizeRead → Wanted → MadePuzzle P → Type 0
  pub makes_none : SizeRead → Wanted → Type 0

-- The puzzles of a game. It mirrors the ghost members of the traits `Printed`, `Readable` and
-- `Played`, in their order: the columns and rows of the grids, how many values a cell may have, what
-- is printed of a grid at a place, whether that shows nothing of the number, and the game.
abbrev pub PuzzleFacts : Type 0 → Type 1
PuzzleFacts P = record {
  extent : P → Extent;
  value_count : P → ℕ;
  cell_text : P → List ℕ → ℕ → Text;
  hides : P → ℕ → Type 0;
  game : GameFacts P;
}

-- how a grid of a puzzle is printed
abbrev pub printed_by : {P : Type 0} → PuzzleFacts P → P → List ℕ → Text
printed_by play p g = grid_text (play.cell_text p g) (play.extent p)
