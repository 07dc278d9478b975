-- What ties the commands to one another: what they say of one ID and of what one of them hands out,
-- and how many answers a request allows.
use Rattle.std.specs.Prelude.{◌≡◌, ◌↔◌, ◌⊎◌, ℕ, Bool, Some, ◌≢◌, None, ◌<◌, ◌≤◌, ◌++◌, [], ◌∷◌, true, false, codes, decimal, List, All, Contains, Option, ⊤}
use Rattle.gameid_core.specs.declared.id.game.Game.TheVariants as game
use Rattle.gameid_core.specs.LightText.{SpellsLight}
use Rattle.gameid_core.specs.SoloText.{SpellsSolo}
use Rattle.maker_core.specs.LightMaking.{IsLightMade, SameLight, light_game}
use Rattle.maker_core.specs.SoloMaking.{solo_game, SameSolo}
use Rattle.maker_core.specs.declared.made.Why.TheVariants.{Needed}
use Rattle.commands.specs.Common.{Stream, Extent, Game, IsPrinted, Light, Solo, IsSoloMade, Kept, is_settled}
use Rattle.commands.specs.Answers.{Answer, Asked, Begins, Text, check, code_of, generate, grade, solve}
use Rattle.commands.specs.Games.{game_of, puzzle_type}
use Rattle.commands.specs.LightFacts.{light_facts}
use Rattle.commands.specs.PuzzleFacts.{GameFacts, PuzzleFacts}
use Rattle.commands.specs.SoloFacts.{solo_facts}
use Rattle.commands.specs.Allowed.{Allows, AllowsCheck, AllowsSolve, AllowsGrade, is_read, AllowsMade, handed_out, wanted}
use Rattle.commands.specs.Each.{HasAnswers}
use Rattle.commands.specs.CheckAnswers.{checked, without_returns}
use Rattle.commands.specs.Replies.{gave_up_answer, one_answer, several_answer}
use Rattle.commands.specs.Grades.{NamedRules, rule_set_text}
use Rattle.commands.specs.declared.answers.status.Status.TheVariants.{Fine, Wrong, Several, GaveUp}
use Rattle.commands.specs.declared.grade.grades.GradedRules.{GradedRules}
use Rattle.commands.specs.declared.grade.grades.GradedRules.TheVariants.{Singles, Houses, Crossings, Lines, Local}
use Rattle.commands.specs.Makings.{made_answer}

-- the first text spells a puzzle, and the second is the ID that is written for it
pub record IsRewritten {P : Type 0} (game : GameFacts P) (id other : Text) : Type 0 where
  pub puzzle : P
  pub spelled : game.spells id puzzle
  pub is_written : other ≡ game.written puzzle

-- the two requests allow the same answers, whatever the input
abbrev pub AllowTheSame : Asked → Asked → Type 0
AllowTheSame first second = (input : Text) (answer : Answer)
    → (Allows (Some first) input answer ↔ Allows (Some second) input answer)

-- the two texts spell the same puzzles, and each command that names an ID answers the same to both
pub record AreAlike (game : Game) (id other : Text) : Type 0 where
  pub puzzles : (p : puzzle_type game)
      → ((game_of game).game.spells id p ↔ (game_of game).game.spells other p)
  pub solved : (budget : ℕ)
      → AllowTheSame (solve game (Some id) budget) (solve game (Some other) budget)
  pub checked : AllowTheSame (check game id) (check game other)
  pub graded : (budget : ℕ) (traced : Bool)
      → AllowTheSame (grade game id budget traced) (grade game other budget traced)

abbrev pub RewritingKeepsAnswers : Type 0
RewritingKeepsAnswers = (game : Game) (id other : Text)
    → IsRewritten (game_of game).game id other → AreAlike game id other

-- of this input `correct` is allowed, and nothing else
abbrev pub Passes : (Text → Answer → Type 0) → Text → Type 0
Passes checks input = (said : Answer) → (checks input said ↔ (said ≡ checked None))

-- The one grid that is told passes. So do both of two, which are printed differently, and so does a
-- grid that was found before the search gave up.
pub record ArePassed (checks : Text → Answer → Type 0) (solved : Answer) : Type 0 where
  pub one : solved.status ≡ code_of Fine
      → (grid : Text) × (solved ≡ one_answer grid) × Passes checks grid
  pub several : solved.status ≡ code_of Several
      → (first : Text) × (second : Text) × (solved ≡ several_answer first second)
      × (first ≢ second) × Passes checks first × Passes checks second
  pub gave_up : solved.status ≡ code_of GaveUp → (solved ≡ gave_up_answer [])
      ⊎ ((grid : Text) × (solved ≡ gave_up_answer grid) × Passes checks grid)

abbrev pub SolvedGridsPass : Type 0
SolvedGridsPass = (game : Game) (id : Text) (budget : ℕ) (solved : Answer)
    → AllowsSolve (game_of game) id budget solved
    → ArePassed (AllowsCheck (game_of game) id) solved

-- where an input is correct, the ID is never told to have no solution, whatever the budget
abbrev pub CorrectMeansNeverNone : Type 0
CorrectMeansNeverNone = (game : Game) (id input : Text) (budget : ℕ) (given solved : Answer)
    → AllowsCheck (game_of game) id input given → given.status ≡ code_of Fine
    → AllowsSolve (game_of game) id budget solved → solved.status ≢ code_of Wrong

-- where the ID is told to have one, the input is that grid's printed form, but for its line ends
abbrev pub CorrectGridsAreTheOneTold : Type 0
CorrectGridsAreTheOneTold = (game : Game) (id input grid : Text) (budget : ℕ)
    (given solved : Answer)
    → AllowsCheck (game_of game) id input given → given.status ≡ code_of Fine
    → AllowsSolve (game_of game) id budget solved → solved ≡ one_answer grid
    → IsPrinted (without_returns input) grid

-- The statuses of `grade` and of `solve` with the same budget: they are the same, or `grade` is
-- Fine where `solve` gave up. Only a rule set that strikes more than the search can do that, as
-- `crossings` of Solo.
abbrev pub StatusesAgree : ℕ → ℕ → Type 0
StatusesAgree graded solved =
    (graded ≡ solved) ⊎ ((graded ≡ code_of Fine) × (solved ≡ code_of GaveUp))

abbrev pub GradesGoWithVerdicts : Type 0
GradesGoWithVerdicts = (game : Game) (id : Text) (budget : ℕ) (traced : Bool)
    (solved graded : Answer)
    → AllowsSolve (game_of game) id budget solved
    → AllowsGrade (game_of game) id budget traced graded
    → StatusesAgree graded.status solved.status

-- with enough budget the one answer to the ID is that this grid is the solution
pub record IsOneWithEnough (game : Game) (id : Text) : Type 0 where
  pub enough : ℕ
  pub grid : Text
  pub said : (budget : ℕ) → enough ≤ budget → (said : Answer)
      → (AllowsSolve (game_of game) id budget said ↔ (said ≡ one_answer grid))

-- a grade that names a rule set or a search is that of such an ID
abbrev pub GradedPuzzlesHaveOne : Type 0
GradedPuzzlesHaveOne = (game : Game) (id : Text) (budget : ℕ) (traced : Bool) (graded : Answer)
    → AllowsGrade (game_of game) id budget traced graded → graded.status ≡ code_of Fine
    → IsOneWithEnough game id

-- What the rule set strikes, the rules of its game's search strike too. Of `singles` that is the law
-- `houses_strike_what_singles_strike`; `houses`, `lines` and `local` are the rules of the search.
abbrev pub is_within_search : GradedRules → Bool
is_within_search Singles = true
is_within_search Houses = true
is_within_search Crossings = false
is_within_search Lines = true
is_within_search Local = true

-- the first line of the answer names such a rule set
abbrev pub NamesSetNoStrongerThanSearch : Answer → Type 0
NamesSetNoStrongerThanSearch answer = (set : GradedRules) × (is_within_search set ≡ true)
    × Begins (rule_set_text set ++ codes "\n") answer.text

-- the grade names one exactly where a search without a trial tells the one solution
abbrev pub RuleSetsNeedNoTrial : Type 0
RuleSetsNeedNoTrial = (game : Game) (id : Text) (budget : ℕ) (traced : Bool)
    (solved graded : Answer)
    → AllowsSolve (game_of game) id 0 solved
    → AllowsGrade (game_of game) id budget traced graded
    → (NamesSetNoStrongerThanSearch graded ↔ (solved.status ≡ code_of Fine))

-- what a rule set of the list settles, each later one settles too
abbrev pub LaterSetsSettleAsMuch : List NamedRules → Type 0
LaterSetsSettleAsMuch [] = ⊤
LaterSetsSettleAsMuch (first ∷ rest) =
    (is_settled first.rules ≡ true → All (λ set. is_settled set.rules ≡ true) rest)
    × LaterSetsSettleAsMuch rest

-- so the first rule set that settles a puzzle, by which it is graded, is the weakest that does
abbrev pub GradesNameTheWeakest : Type 0
GradesNameTheWeakest = (game : Game) (id : Text) (p : puzzle_type game)
    → (game_of game).game.spells id p → LaterSetsSettleAsMuch ((game_of game).game.sets p)

-- so many trials are the least budget with which the one answer to the ID tells one solution
pub record IsLeastBudget (game : Game) (id : Text) (trials : ℕ) : Type 0 where
  pub enough : (said : Answer) → AllowsSolve (game_of game) id trials said
      → said.status ≡ code_of Fine
  pub least : (budget : ℕ) → budget < trials → (said : Answer)
      → AllowsSolve (game_of game) id budget said → said.status ≢ code_of Fine

-- the first line of the answer names a search of so many trials, or any rule set
abbrev pub NamesSearch : ℕ → Answer → Type 0
NamesSearch trials answer = Begins (codes "search " ++ decimal trials ++ codes "\n") answer.text

abbrev pub NamesSet : Answer → Type 0
NamesSet answer = (set : GradedRules) × Begins (rule_set_text set ++ codes "\n") answer.text

-- An answer that begins with `search` names the least budget, which is within that of the grade.
-- Where there is such a least budget, the answer names it, or a rule set.
pub record NamesLeastBudget (game : Game) (id : Text) (budget : ℕ) (graded : Answer)
    : Type 0 where
  pub said : Begins (codes "search ") graded.text
      → (trials : ℕ) × NamesSearch trials graded × IsLeastBudget game id trials × (trials ≤ budget)
  pub only : (trials : ℕ) → IsLeastBudget game id trials → trials ≤ budget
      → NamesSet graded ⊎ NamesSearch trials graded

abbrev pub SearchesNameLeastBudgets : Type 0
SearchesNameLeastBudgets = (game : Game) (id : Text) (budget : ℕ) (traced : Bool) (graded : Answer)
    → AllowsGrade (game_of game) id budget traced graded → NamesLeastBudget game id budget graded

-- An ID is handed out with a grid. The ID is read, with that budget the one answer to it is that
-- this grid is the solution, and the grid passes.
pub record IsSolvedAsMade (game : Game) (budget : ℕ) (answer : Answer) : Type 0 where
  pub id : Text
  pub grid : Text
  pub said : answer ≡ made_answer id grid
  pub read : is_read game id ≡ true
  pub solved : (said : Answer)
      → (AllowsSolve (game_of game) id budget said ↔ (said ≡ one_answer grid))
  pub passes : Passes (AllowsCheck (game_of game) id) grid

abbrev pub MadePuzzlesAreSolved : Type 0
MadePuzzlesAreSolved = (game : Game) (size : Text) (seed budget tries black : ℕ) (answer : Answer)
    → AllowsMade (game_of game) (wanted seed budget tries black) size answer
    → answer.status ≡ code_of Fine
    → IsSolvedAsMade game budget answer

-- the clue of that cell was left since it is needed
abbrev pub IsNeeded : List Kept → ℕ → Type 0
IsNeeded kept place = Contains kept (record { place = place; why = Needed })

-- an ID of a made puzzle without a clue that is needed has never one solution, whatever the budget
abbrev pub SoloNeedsItsClues : Type 0
SoloNeedsItsClues = (c r : ℕ) (x : Bool) (budget tries : ℕ) (s : Stream) (p : Solo) (g : List ℕ)
    (kept : List Kept) (place : ℕ)
    → IsSoloMade c r x budget tries s p g kept → IsNeeded kept place
    → (id : Text) (other : ℕ) (said : Answer) → SpellsSolo id (solo_game.without p place)
    → AllowsSolve (game_of game.Solo) id other said → said.status ≢ code_of Fine

abbrev pub LightsNeedTheirClues : Type 0
LightsNeedTheirClues = (size : Extent) (black budget tries : ℕ) (s : Stream) (p : Light)
    (g : List ℕ) (kept : List Kept) (place : ℕ)
    → IsLightMade size black budget tries s p g kept → IsNeeded kept place
    → (id : Text) (other : ℕ) (said : Answer) → SpellsLight id (light_game.without p place)
    → AllowsSolve (game_of game.LightUp) id other said → said.status ≢ code_of Fine

-- one answer is allowed, and no other
pub record HasOneAnswer (allows : Answer → Type 0) : Type 0 where
  pub answer : Answer
  pub allowed : allows answer
  pub only : (other : Answer) → allows other → answer ≡ other

-- The request has an answer that its words and the input fix. A trace is open, and so is which
-- clues of a made puzzle of Solo or Light Up are left.
abbrev pub is_fixed : Option Asked → Bool
is_fixed (Some (grade game id budget true)) = false
is_fixed (Some (generate game.Solo size seed budget tries black)) = false
is_fixed (Some (generate game.LightUp size seed budget tries black)) = false
is_fixed _ = true

-- a solve, a check, a grade without a trace, a making of Pattern or Tents, and words that are
-- refused, on any input
abbrev pub FixedRequestsHaveOneAnswer : Type 0
FixedRequestsHaveOneAnswer = (asked : Option Asked) (input : Text) → is_fixed asked ≡ true
    → HasOneAnswer (Allows asked input)

-- for each request, and on each input, some answer is allowed
abbrev pub EachRequestHasAnAnswer : Type 0
EachRequestHasAnAnswer = (asked : Option Asked) → HasAnswers (Allows asked)

-- two answers hand out puzzles that are alike, with one solution
pub record HandOutAlike {P : Type 0} (play : PuzzleFacts P) (alike : P → P → Type 0)
    (one other : Answer) : Type 0 where
  pub first : P
  pub second : P
  pub solution : List ℕ
  pub same : alike first second
  pub first_said : one ≡ handed_out play first solution
  pub second_said : other ≡ handed_out play second solution

-- The two answers have the same status. Where they hand out puzzles, these are alike, with one
-- solution; where not, the answers are the same.
pub record DifferInClues {P : Type 0} (play : PuzzleFacts P) (alike : P → P → Type 0)
    (one other : Answer) : Type 0 where
  pub status : one.status ≡ other.status
  pub others : one.status ≢ code_of Fine → one ≡ other
  pub made : one.status ≡ code_of Fine → HandOutAlike play alike one other

-- two answers to one making of Solo have the same size, with or without diagonals, and the same grid
abbrev pub SoloDiffersAtMostInGivens : Type 0
SoloDiffersAtMostInGivens = (size : Text) (seed budget tries black : ℕ) (one other : Answer)
    → AllowsMade (game_of game.Solo) (wanted seed budget tries black) size one
    → AllowsMade (game_of game.Solo) (wanted seed budget tries black) size other
    → DifferInClues solo_facts SameSolo one other

-- two answers to one making of Light Up have the same size, black cells and bulbs
abbrev pub LightsDifferInNumbers : Type 0
LightsDifferInNumbers = (size : Text) (seed budget tries black : ℕ) (one other : Answer)
    → AllowsMade (game_of game.LightUp) (wanted seed budget tries black) size one
    → AllowsMade (game_of game.LightUp) (wanted seed budget tries black) size other
    → DifferInClues light_facts SameLight one other
