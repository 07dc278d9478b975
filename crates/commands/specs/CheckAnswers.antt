-- What `check` takes for a grid, and what it answers to an input, given a puzzle.
use Rattle.std.specs.Prelude.{◌∷◌, ◌==◌, ◌&&◌, [], Bool, false, if◌then◌else◌, ◌≡◌, ◌≤◌, ◌⊎◌, ◌++◌, ◌/◌, ◌%◌, ℕ, List, Option, Some, None, length, codes, decimal, option_map, Vec}
use Rattle.commands.specs.Common.{IsPrinted, IsAsShown}
use Rattle.commands.specs.Answers.{Text, Answer, answer_with, code_of}
use Rattle.commands.specs.PuzzleFacts.{PuzzleFacts, printed_by}
use Rattle.commands.specs.Replies.{refused}
use Rattle.commands.specs.Texts.{IsText, text_limit}
use Rattle.commands.specs.declared.answers.status.Status.TheVariants.{Fine, Wrong}

-- a line end, byte 10, comes first
abbrev pub begins_with_line_end : Text → Bool
begins_with_line_end [] = false
begins_with_line_end (byte ∷ rest) = byte == 10

-- the text without each carriage return, byte 13, that stands directly before a line end
unfoldable pub without_returns : Text → Text
without_returns [] = []
without_returns (byte ∷ rest) =
    if (byte == 13) && begins_with_line_end rest then without_returns rest
    else byte ∷ without_returns rest

-- nothing is wrong; or this is
abbrev pub checked : Option Text → Answer
checked None = answer_with (codes "correct\n") (code_of Fine)
checked (Some fault) = answer_with (codes "wrong: " ++ fault ++ codes "\n") (code_of Wrong)

-- a place of a grid with so many columns: its column and its row
abbrev pub place_text : ℕ → ℕ → Text
place_text columns place = decimal (place % columns) ++ codes "," ++ decimal (place / columns)

-- the first broken rule of the grid is said, or that there is none
pub record SaysFault {F : Type 0} (is : Option F → Type 0) (rule_text : F → Text)
    (answer : Answer) : Type 0 where
  pub fault : Option F
  pub first : is fault
  pub said : answer ≡ checked (option_map rule_text fault)

module _ {P : Type 0} (play : PuzzleFacts P) (p : P) (input : Text) where
  -- The input isn't too long, and without its returns it is the printed form of that grid, with or
  -- without the last line end. The grid is 0 wherever what is printed shows nothing of the number.
  pub record IsInputOf (g : List ℕ) : Type 0 where
    pub small : length input ≤ text_limit
    pub shown : IsAsShown (play.hides p) (play.value_count p) (play.extent p) g
    pub printed : IsPrinted (without_returns input) (printed_by play p g)

  -- the one grid of the input is checked
  pub record IsChecked (answer : Answer) : Type 0 where
    pub grid : List ℕ
    pub given : IsInputOf grid
    pub only : (other : List ℕ) → IsInputOf other → grid ≡ other
    pub said : play.game.checks p grid answer

  -- the input is no grid of the puzzle, and is refused
  pub record IsNoGrid (answer : Answer) : Type 0 where
    pub none : (g : List ℕ) → IsInputOf g → ⊥
    pub said : answer ≡ refused (codes "grid")

  abbrev pub AllowsGrid : Answer → Type 0
  AllowsGrid answer = IsChecked answer ⊎ IsNoGrid answer

-- the same of each input of which this was read
abbrev pub AllowsRead : {P Z : Type 0}
    → PuzzleFacts P → P → Option (Vec ℕ Z) → Answer → Type 0
AllowsRead play p read answer = (input : Text) → IsText read input → AllowsGrid play p input answer
