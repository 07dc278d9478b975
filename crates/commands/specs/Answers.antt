-- A text with its status, which of them a run may leave, and what a run is asked for.
use Rattle.std.specs.Prelude.{Bool, List, Option, Vec, false, max, true, ℕ, ◌++◌, ◌<◌, ◌≡◌}
use Rattle.commands.specs.declared.answers.status.Status.{Status}
use Rattle.commands.specs.declared.answers.status.Status.TheVariants.{Fine, GaveUp, Refused, Several, Wrong}
use Rattle.commands.specs.declared.answers.status.Stop.{Stop}
use Rattle.commands.specs.declared.answers.status.Stop.TheVariants.{Broken, Memory}
use Rattle.gameid_core.specs.declared.id.game.Game.{Game}

-- A text with its status, and which of them a run may leave.

abbrev pub Text : Type 0
Text = List ℕ

-- the number of a status, and that of a run that ended before its answer was whole
abbrev pub code_of : Status → ℕ
code_of Fine = 0
code_of Wrong = 1
code_of Refused = 2
code_of Several = 3
code_of GaveUp = 4

abbrev pub status_of : Stop → ℕ
status_of Memory = 5
status_of Broken = 6

-- what is written, and the status that goes with it
pub record Answer : Type 0 where
  pub text : Text
  pub status : ℕ

abbrev pub answer_with : Text → ℕ → Answer
answer_with text status = record { text = text; status = status }

-- the answer of these bytes and that status
abbrev pub answer_of : {Z : Type 0} → Vec ℕ Z × ℕ → Answer
answer_of left = answer_with left.0.items left.1

-- the status has the greater number of the two
abbrev pub IsGreater : Status → Status → Status → Type 0
IsGreater one other status = code_of status ≡ max (code_of one) (code_of other)

-- the text begins with these bytes
abbrev pub Begins : Text → Text → Type 0
Begins bytes text = (rest : Text) × (text ≡ bytes ++ rest)

-- The input may be this one, where these bytes were read of it: it is these bytes where the end was
-- met, and else any that begins with them.
abbrev pub IsInput : Bool → Text → Text → Type 0
IsInput true read input = input ≡ read
IsInput false read input = Begins read input

-- an answer is allowed that begins with what was written
abbrev pub BeginsAnswer : (Answer → Type 0) → Text → Type 0
BeginsAnswer allows written = (a : Answer) × allows a × Begins written a.text

-- What a run that read these bytes may leave: for each input that it may have had, a beginning of
-- an allowed answer, and with the status of an answer that answer whole.
pub record Leaves (allows : Text → Answer → Type 0) (ended : Bool) (read written : Text)
    (status : ℕ) : Type 0 where
  pub begun : (input : Text) → IsInput ended read input → BeginsAnswer (allows input) written
  pub whole : status < status_of Memory → (input : Text) → IsInput ended read input
      → allows input (record { text = written; status = status })

-- the sink took the text up to the rest
pub record PutUpTo {S : Type 0} (takes : S → Text → S → Type 0) (old : S) (text rest : Text)
    (new : S) : Type 0 where
  pub done : Text
  pub took : takes old done new
  pub split : text ≡ done ++ rest

-- the sink took a beginning of the text
pub record PutBegun {S : Type 0} (takes : S → Text → S → Type 0) (old : S) (text : Text)
    (new : S) : Type 0 where
  pub done : Text
  pub took : takes old done new
  pub begun : Begins done text

-- The sink took a beginning of the answer's text, and all of it where the status is the answer's.
pub record Delivers {S : Type 0} (takes : S → Text → S → Type 0) (old : S) (a : Answer) (new : S)
    (status : ℕ) : Type 0 where
  pub written : Text
  pub took : takes old written new
  pub begun : Begins written a.text
  pub whole : status < status_of Memory → (written ≡ a.text) × (status ≡ a.status)

-- What a run is asked for.

-- a request, apart from where its texts lie in memory
pub data Asked : Type 0 where
  -- game, ID where there is one, budget
  solve : Game → Option Text → ℕ → Asked
  -- game, ID
  check : Game → Text → Asked
  -- game, ID, budget, whether the trace is wanted
  grade : Game → Text → ℕ → Bool → Asked
  -- game, size, seed, budget, tries, percentage of black
  generate : Game → Text → ℕ → ℕ → ℕ → ℕ → Asked
