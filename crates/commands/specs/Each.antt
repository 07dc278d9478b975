-- The answers to lines, in turn.
use Rattle.std.specs.Prelude.{◌≡◌, ◌++◌, ℕ, List, [], ◌∷◌, max}
use Rattle.commands.specs.Answers.{Answer, BeginsAnswer, Text, answer_with, code_of}
use Rattle.commands.specs.declared.answers.status.Status.TheVariants.{Fine}
use Rattle.std.specs.Str.Lines.{lines}

-- nothing is said
abbrev pub silence : Answer
silence = answer_with [] (code_of Fine)

-- one answer after the other, with the greater status
abbrev pub both : Answer → Answer → Answer
both a b = record { text = a.text ++ b.text; status = max a.status b.status }

-- the answer is one allowed answer to each line, in order
abbrev pub AllowsEach : (Text → Answer → Type 0) → List Text → Answer → Type 0
AllowsEach allows [] a = a ≡ silence
AllowsEach allows (line ∷ rest) a = (x : Answer) × (y : Answer) × allows line x
    × AllowsEach allows rest y × (a ≡ both x y)

-- each text has an answer
abbrev pub HasAnswers : (Text → Answer → Type 0) → Type 0
HasAnswers allows = (text : Text) → (a : Answer) × allows text a

-- the text begins an answer to the lines, however the input goes on
abbrev pub BeginsLines : (Text → Answer → Type 0) → Text → Text → Type 0
BeginsLines allows seen text =
    (rest : Text) → BeginsAnswer (AllowsEach allows (lines (seen ++ rest))) text

-- the same of what was written
pub record Stopped {S : Type 0} (takes : S → Text → S → Type 0) (allows : Text → Answer → Type 0)
    (start : S) (seen : Text) (now : S) : Type 0 where
  pub written : Text
  pub took : takes start written now
  pub begun : BeginsLines allows seen written

-- What was written begins an answer to the lines of these bytes alone.
pub record Begun {S : Type 0} (takes : S → Text → S → Type 0) (allows : Text → Answer → Type 0)
    (start : S) (seen : Text) (now : S) : Type 0 where
  pub written : Text
  pub took : takes start written now
  pub begun : BeginsAnswer (AllowsEach allows (lines seen)) written

-- What was written is an answer to the lines of these bytes.
pub record Answered {S : Type 0} (takes : S → Text → S → Type 0) (allows : Text → Answer → Type 0)
    (start : S) (status : ℕ) (seen : Text) (now : S) : Type 0 where
  pub written : Text
  pub took : takes start written now
  pub whole : AllowsEach allows (lines seen) (record { text = written; status = status })
