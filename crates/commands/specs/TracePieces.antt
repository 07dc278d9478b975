-- How a grade is said, and how a trace is put in pieces. No contract of a run uses these words: they serve the steps that
-- put it.
use Rattle.std.specs.Prelude.{◌≡◌, ◌<◌, ◌+◌, ◌⊎◌, ◌++◌, ◌∷◌, ℕ, Bool, List, Result, String, [], length, string_bytes, string_len, ◌≤◌, true}
use Rattle.engine_core.specs.Counts.{IsClosedIn}
use Rattle.engine_core.specs.Stored.{Stored}
use Rattle.commands.specs.Common.{RuleSystem}
use Rattle.commands.specs.Answers.{Text, PutUpTo, PutBegun}
use Rattle.commands.specs.Allowed.{IsGraded}
use Rattle.commands.specs.Grades.{NamedRules, listed_grade, only_set}
use Rattle.commands.specs.PuzzleFacts.{PuzzleFacts}
use Rattle.commands.specs.Stops.{LeavesSink, Writes}
use Rattle.commands.specs.Traces.{IsTrace, visits_text}
use Rattle.commands.specs.declared.answers.status.Status.{Status}
use Rattle.commands.specs.declared.answers.status.Stop.{Stop}
use Rattle.commands.specs.declared.ends.Sink as sinks
use Rattle.commands.specs.declared.grade.Attempt.{Attempt}
use Rattle.commands.specs.declared.grade.grades.Grade.{Grade}
use Rattle.commands.specs.declared.grade.trace.TheConstants.{MAX_LINE, FULL_PIECE}

-- the grade by the rules that are tried, the last in the list, and else by a search with its own
abbrev pub IsGradeBy : Attempt → RuleSystem → RuleSystem → Grade → Type 0
IsGradeBy tried rules search grade =
    grade ≡ listed_grade (only_set tried.set rules) search tried.options.budget

-- some closing of the rules' start board makes the visits, or the sweeps, of the store's last search
abbrev pub HasClosedStart : RuleSystem → Stored → Type 0
HasClosedStart rules store = IsClosedIn rules rules.start store.turns

-- The grade is said by the first rule set of a list, which settles the puzzle, whatever sets follow.
pub record SaysFirst {P S : Type 0} (sink : sinks.Ghosts S) (play : PuzzleFacts P) (tried : Attempt)
    (rules : RuleSystem) (p : P) (old new : S) (result : Result Status Stop) : Type 0 where
  pub answer : (rest : List NamedRules) → Writes sink
      (IsGraded play (record { set = tried.set; rules = rules } ∷ rest) tried.options.budget
      tried.options.traced p) old new result
  pub left : LeavesSink sink new result

-- the sink took a text and the lines of its trace, up to a rest
pub record PutsTrace {S : Type 0} (takes : S → Text → S → Type 0) (traced : Bool)
    (name : ℕ → Text) (rules : RuleSystem) (old : S) (text rest : Text) (new : S) : Type 0 where
  pub lines : Text
  pub trace : IsTrace traced name rules lines
  pub put : PutUpTo takes old (text ++ lines) rest new

-- the sink took a beginning of a text and the lines of its trace
pub record BeginsTrace {S : Type 0} (takes : S → Text → S → Type 0) (traced : Bool)
    (name : ℕ → Text) (rules : RuleSystem) (old : S) (text : Text) (new : S) : Type 0 where
  pub lines : Text
  pub trace : IsTrace traced name rules lines
  pub begun : PutBegun takes old (text ++ lines) new

-- each house that the rules visit in a queue has a name, where so many have one
abbrev pub AreAllNamed : RuleSystem → ℕ → Type 0
AreAllNamed rules named = rules.by_queue ≡ true → rules.houses ≤ named

-- The sink took nothing and the text is kept, or the sink took all of it.
abbrev pub KeptOrPut : {S : Type 0} → (S → Text → S → Type 0) → S → Text → Text → S → Type 0
KeptOrPut takes old text rest new = ((rest ≡ text) × (new ≡ old))
    ⊎ ((rest ≡ []) × takes old text new)

-- the text of pieces of which the last stands first
abbrev pub joined : List Text → Text
joined [] = []
joined (piece ∷ before) = joined before ++ piece

-- The sink took these pieces in turn, of which the last stands first, and each has fewer bytes than
-- so many.
abbrev pub TakesPieces : {S : Type 0} → (S → Text → S → Type 0) → ℕ → S → List Text → S → Type 0
TakesPieces takes most old [] new = new ≡ old
TakesPieces {S} takes most old (piece ∷ before) new = (between : S)
    × TakesPieces takes most old before between × takes between piece new × (length piece < most)

-- the sink took the text up to the rest, in pieces that each have fewer bytes than so many
pub record PutInPieces {S : Type 0} (takes : S → Text → S → Type 0) (most : ℕ) (old : S)
    (text rest : Text) (new : S) : Type 0 where
  pub pieces : List Text
  pub took : TakesPieces takes most old pieces new
  pub split : text ≡ joined pieces ++ rest

-- a text and then a line for each visit
abbrev pub with_visits : {Z : Type 0} → String Z → (ℕ → Text) → List ℕ → Text
with_visits text name visits = string_bytes text ++ visits_text name visits

module _ {S Z : Type 0} (takes : S → Text → S → Type 0) (name : ℕ → Text) (visits : List ℕ) where
  -- all of that was put up to a rest; in pieces, after a short text; a beginning of it was put
  abbrev pub VisitsPut : S → String Z → String Z → S → Type 0
  VisitsPut old text rest new =
      PutUpTo takes old (with_visits text name visits) (string_bytes rest) new

  abbrev pub VisitsInPieces : S → String Z → String Z → S → Type 0
  VisitsInPieces old text rest new = string_len text < FULL_PIECE
      → PutInPieces takes (FULL_PIECE + MAX_LINE) old (with_visits text name visits) (string_bytes rest) new

  abbrev pub VisitsBegun : S → String Z → S → Type 0
  VisitsBegun old text new = PutBegun takes old (with_visits text name visits) new
