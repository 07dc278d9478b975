-- The answers that each command allows, and those that the words allow on an input.
use Rattle.std.specs.Prelude.{◌⊎◌, Result, Ok, ◌≡◌, List, ℕ, Bool, is_ok, true, false, Option, Some, None}
use Rattle.std.specs.Str.Lines.{lines}
use Rattle.commands.specs.Common.{IsRight, IdFault, Game, SizeRead, verdict_of}
use Rattle.commands.specs.Answers.{Answer, Asked, Text, check, generate, grade, solve}
use Rattle.commands.specs.CheckAnswers.{AllowsGrid}
use Rattle.commands.specs.Each.{AllowsEach}
use Rattle.commands.specs.Games.{game_of}
use Rattle.commands.specs.Grades.{IsRightGrade, NamedRules, SaysGrade, last_tried, listed_grade}
use Rattle.commands.specs.Makings.{MadePuzzle, Wanted, exhausted_answer, made_answer, seed_stream}
use Rattle.commands.specs.PuzzleFacts.{GameFacts, PuzzleFacts, printed_by}
use Rattle.commands.specs.Replies.{IsRefused, refused_words, verdict_answer}
use Rattle.commands.specs.declared.grade.grades.GradeOptions.{GradeOptions}

-- the text spells that puzzle, and the answer is allowed for it
pub record IsAnswered {P : Type 0} (spells : P → Type 0) (allows : P → Answer → Type 0)
    (answer : Answer) : Type 0 where
  pub puzzle : P
  pub spelled : spells puzzle
  pub allowed : allows puzzle answer

-- the answers to a text with that reading, which spells such puzzles
abbrev pub AllowsId : {P : Type 0} → Result P IdFault → (P → Type 0) → (P → Answer → Type 0)
    → Answer → Type 0
AllowsId reading spells allows answer = IsRefused reading answer ⊎ IsAnswered spells allows answer

-- what a puzzle is handed out as, with a solution
abbrev pub handed_out : {P : Type 0} → PuzzleFacts P → P → List ℕ → Answer
handed_out play p g = made_answer (play.game.written p) (printed_by play p g)

module _ {P : Type 0} (play : PuzzleFacts P) where
  -- the verdict of the walk with the budget is right of the solutions, and is said with its grids
  pub record IsSolved (budget : ℕ) (p : P) (answer : Answer) : Type 0 where
    pub right : IsRight (play.game.solves p) (verdict_of (play.game.rules p) budget)
    pub said : answer ≡ verdict_answer (printed_by play p) (verdict_of (play.game.rules p) budget)

  -- The grade by these rule sets in turn, and else by a search, is right of the solutions. It is
  -- said, with the closing by the rules that were tried last.
  pub record IsGraded (sets : List NamedRules) (budget : ℕ) (traced : Bool) (p : P)
      (answer : Answer) : Type 0 where
    pub right : IsRightGrade (play.game.solves p) (listed_grade sets (play.game.rules p) budget)
    pub said : SaysGrade (listed_grade sets (play.game.rules p) budget) traced
        (play.game.visit_name p) (last_tried (play.game.rules p) sets) answer

  -- a puzzle is made of the size, and is handed out by its written ID, which spells it
  pub record IsHandedOut (w : Wanted) (size : SizeRead) (answer : Answer) : Type 0 where
    pub made : MadePuzzle P
    pub is_made : play.game.makes size w made
    pub spelled : play.game.spells (play.game.written made.puzzle) made.puzzle
    pub said : answer ≡ handed_out play made.puzzle made.solution

  -- no try makes a puzzle of the size, and that is said
  pub record IsExhausted (w : Wanted) (size : SizeRead) (answer : Answer) : Type 0 where
    pub none : play.game.makes_none size w
    pub said : answer ≡ exhausted_answer

  -- the answers to an ID of the game; for `check` on an input
  abbrev pub AllowsSolve : Text → ℕ → Answer → Type 0
  AllowsSolve id budget =
      AllowsId (play.game.reading id) (play.game.spells id) (IsSolved budget)

  abbrev pub AllowsCheck : Text → Text → Answer → Type 0
  AllowsCheck id input =
      AllowsId (play.game.reading id) (play.game.spells id) (λ p. AllowsGrid play p input)

  abbrev pub AllowsGrade : Text → ℕ → Bool → Answer → Type 0
  AllowsGrade id budget traced = AllowsId (play.game.reading id) (play.game.spells id)
      (λ p. IsGraded (play.game.sets p) budget traced p)

  -- the answers of a grade with these options: to a puzzle, and to an ID
  abbrev pub Grades : GradeOptions → P → Answer → Type 0
  Grades options p = IsGraded (play.game.sets p) options.budget options.traced p

  abbrev pub GradesId : Text → GradeOptions → Answer → Type 0
  GradesId id options = AllowsGrade id options.budget options.traced

  -- the answers of `generate` to a size, and to the text of one
  abbrev pub AllowsOfSize : Wanted → SizeRead → Answer → Type 0
  AllowsOfSize w size answer = IsHandedOut w size answer ⊎ IsExhausted w size answer

  abbrev pub AllowsMade : Wanted → Text → Answer → Type 0
  AllowsMade w text = AllowsId (play.game.sizes text) (λ size. play.game.sizes text ≡ Ok size)
      (AllowsOfSize w)

-- what `generate` is asked for, by the seed and the other numbers
abbrev pub wanted : ℕ → ℕ → ℕ → ℕ → Wanted
wanted seed budget tries black =
    record { stream = seed_stream seed; budget = budget; tries = tries; black = black }

-- The answers that a request allows on an input: without an ID each line of the input is one, and
-- has its answer. Words that ask for nothing are refused.
abbrev pub Allows : Option Asked → Text → Answer → Type 0
Allows (Some (solve game (Some id) budget)) input answer =
    AllowsSolve (game_of game) id budget answer
Allows (Some (solve game None budget)) input answer =
    AllowsEach (λ id. AllowsSolve (game_of game) id budget) (lines input) answer
Allows (Some (check game id)) input answer = AllowsCheck (game_of game) id input answer
Allows (Some (grade game id budget traced)) input answer =
    AllowsGrade (game_of game) id budget traced answer
Allows (Some (generate game size seed budget tries black)) input answer =
    AllowsMade (game_of game) (wanted seed budget tries black) size answer
Allows None input answer = answer ≡ refused_words

-- the ID spells a puzzle of the game
abbrev pub is_spelled : {P : Type 0} → GameFacts P → Text → Bool
is_spelled game id = is_ok (game.reading id)

abbrev pub is_read : Game → Text → Bool
is_read game id = is_spelled (game_of game).game id

-- the request reads its input: a check does where its ID is read
abbrev pub reads_input : Option Asked → Bool
reads_input (Some (solve game None budget)) = true
reads_input (Some (check game id)) = is_read game id
reads_input _ = false
