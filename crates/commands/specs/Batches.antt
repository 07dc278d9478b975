-- What is kept of a line that is being read, and a batch, between two bytes of its input. No
-- contract of a run uses these words.
use Rattle.std.specs.Borrow.{Bor}
use Rattle.std.specs.Prelude.{◌≡◌, ◌==◌, ◌<◌, ◌+◌, ℕ, Bool, List, Option, MatchOption, length, ◌++◌, true, false, Result}
use Rattle.std.specs.List.{All}
use Rattle.std.specs.Str.Lines.{lines, strip_carriage_return}
use Rattle.gameid_core.specs.Head.{max_id}
use Rattle.commands.specs.Answers.{Answer, Text, answer_with, code_of}
use Rattle.commands.specs.Each.{AllowsEach, Answered, BeginsLines, Begun, HasAnswers, Stopped, both}
use Rattle.commands.specs.Games.{game_of}
use Rattle.commands.specs.Runs.{Ran}
use Rattle.commands.specs.Stops.{status_in}
use Rattle.commands.specs.Texts.{Given, IsKeptText}
use Rattle.commands.specs.Allowed.{AllowsSolve}
use Rattle.commands.specs.declared.answers.status.Status.{Status}
use Rattle.commands.specs.declared.answers.status.Stop.{Stop}
use Rattle.commands.specs.declared.batch.Batch.{Batch}
use Rattle.commands.specs.declared.ends.Sink as sinks
use Rattle.commands.specs.declared.ends.Source as sources
use Rattle.commands.specs.declared.ends.text.ReadText.{ReadText}
use Rattle.commands.specs.declared.solve.Task.{Task}

-- of a line, all that came since the last one, these bytes are kept, or they are too many
abbrev pub Holds : ReadText → Text → Type 0
Holds line piece = IsKeptText (max_id + 1) line piece

-- the line that this is, with a newline behind it or with the end of the input
abbrev pub text_of_line : Bool → Text → Text
text_of_line true piece = strip_carriage_return piece
text_of_line false piece = piece

-- the line is there with these bytes, or they are too many for an ID
abbrev pub IsInputLine : Option (Bor (List ℕ)) → List ℕ → Type 0
IsInputLine line bytes = MatchOption line (max_id < length bytes) (λ l. l.now ≡ bytes)

-- what is allowed to a line of the task
abbrev pub AllowsTask : Task → Text → Answer → Type 0
AllowsTask task id = AllowsSolve (game_of task.game) id task.budget

-- what is allowed to all lines of an input
abbrev pub AllowsLines : Task → Text → Answer → Type 0
AllowsLines task input = AllowsEach (AllowsTask task) (lines input)

-- a run answers each line of its input
abbrev pub RanLines : {I O : Type 0} → sources.Ghosts I → sinks.Ghosts O
    → Task → I → I → O → O → Result Status Stop → Type 0
RanLines source sink task old_input new_input old_output new_output result = Ran source sink
    (AllowsLines task) old_input new_input old_output new_output (status_in result)

-- the answers that are still to be put
abbrev pub unput : Batch → Text
unput batch = batch.answers.items

-- a piece of a line
abbrev pub HasNoNewline : Text → Type 0
HasNoNewline piece = All (λ b. (b == 10) ≡ false) piece

-- After these bytes of the input so much was written: with the answers that the batch holds, those to
-- all lines that ended. What came since is held: whatever follows, the rest of the answer is that to
-- what is held and what follows.
pub record Gathered (allows : Text → Answer → Type 0) (batch : Batch) (seen written : Text)
    : Type 0 where
  pub piece : Text
  pub holds : Holds batch.line piece
  pub in_line : HasNoNewline piece
  pub goes_on : (rest : Text) (z : Answer) → AllowsEach allows (lines (piece ++ rest)) z
      → AllowsEach allows (lines (seen ++ rest))
      (both (answer_with (written ++ batch.answers.items) (code_of batch.status)) z)

-- the same of what the sink took since it stood so
pub record Batched {S : Type 0} (takes : S → Text → S → Type 0) (allows : Text → Answer → Type 0)
    (start : S) (batch : Batch) (seen : Text) (now : S) : Type 0 where
  pub written : Text
  pub took : takes start written now
  pub gathered : Gathered allows batch seen written

module _ (task : Task) where
  -- Whatever came before, with more bytes the batch is the next one, and no more was written.
  abbrev pub GathersOn : Batch → Batch → Text → Type 0
  GathersOn batch next more = (seen written : Text) → Gathered (AllowsTask task) batch seen written
      → Gathered (AllowsTask task) next (seen ++ more) written

  -- Whatever came before, with more bytes what was written and what is held begin an answer.
  abbrev pub GathersUpTo : Batch → Batch → Text → Type 0
  GathersUpTo batch next more = HasAnswers (AllowsTask task) → (seen written : Text)
      → Gathered (AllowsTask task) batch seen written
      → BeginsLines (AllowsTask task) (seen ++ more) (written ++ next.answers.items)

  -- Whatever came before, what was written and what is held are an answer to it.
  abbrev pub GathersAll : Batch → Batch → Type 0
  GathersAll batch next = (seen written : Text) → Gathered (AllowsTask task) batch seen written
      → AllowsEach (AllowsTask task) (lines seen)
      (answer_with (written ++ next.answers.items) (code_of next.status))

module _ {S : Type 0} (takes : S → Text → S → Type 0) (task : Task) where
  -- Whatever came before, with more bytes the batch is the next one.
  abbrev pub BatchGoesOn : Batch → Batch → Text → S → S → Type 0
  BatchGoesOn batch next more now new = (start : S) (seen : Text)
      → Batched takes (AllowsTask task) start batch seen now
      → Batched takes (AllowsTask task) start next (seen ++ more) new

  -- Whatever came before, with more bytes what was written begins an answer.
  abbrev pub StopsIn : Batch → Text → S → S → Type 0
  StopsIn batch more now new = HasAnswers (AllowsTask task) → (start : S) (seen : Text)
      → Batched takes (AllowsTask task) start batch seen now
      → Stopped takes (AllowsTask task) start (seen ++ more) new

  -- Whatever came before, what was written is an answer to it; or begins one.
  abbrev pub EndsWith : Batch → Status → S → S → Type 0
  EndsWith batch status now new = (start : S) (seen : Text)
      → Batched takes (AllowsTask task) start batch seen now
      → Answered takes (AllowsTask task) start (code_of status) seen new

  abbrev pub EndsIn : Batch → S → S → Type 0
  EndsIn batch now new = HasAnswers (AllowsTask task) → (start : S) (seen : Text)
      → Batched takes (AllowsTask task) start batch seen now
      → Begun takes (AllowsTask task) start seen new

-- The bytes that the source gave between two moments were taken, of a task; or so far as what was
-- written says, where its lines have answers.
module _ {I S : Type 0} (gives : I → Text → I → Type 0) (takes : S → Text → S → Type 0)
    (task : Task) where
  abbrev pub TakesTask : I → S → Batch → I → S → Type 0
  TakesTask from start batch to now =
      Given gives from to (λ seen. Batched takes (AllowsTask task) start batch seen now)

  abbrev pub StopsReading : I → S → I → S → Type 0
  StopsReading from start to now = HasAnswers (AllowsTask task)
      → Given gives from to (λ seen. Stopped takes (AllowsTask task) start seen now)
