-- What `grade` says of a puzzle: the first rule set of a list that settles it, or else the verdict
-- of a search.
use Rattle.std.specs.Prelude.{◌≡◌, ◌≢◌, ◌++◌, ℕ, Bool, List, [], ◌∷◌, if◌then◌else◌, codes, decimal, ⊤}
use Rattle.engine_core.specs.Verdict.{Outcome.NoSolution, Outcome.OneSolution, Outcome.SeveralSolutions, Outcome.GaveUp, trials_in}
use Rattle.commands.specs.Common.{RuleSystem, is_settled, Outcome, verdict_of, walk}
use Rattle.commands.specs.Answers.{Answer, Text, code_of}
use Rattle.commands.specs.Traces.{IsTrace}
use Rattle.commands.specs.declared.answers.status.Status.TheVariants as status
use Rattle.commands.specs.declared.grade.grades.Grade.{Grade}
use Rattle.commands.specs.declared.grade.grades.Grade.TheVariants as grade
use Rattle.commands.specs.declared.grade.grades.GradedRules.{GradedRules}
use Rattle.commands.specs.declared.grade.grades.GradedRules.TheVariants.{Singles, Houses, Crossings, Lines, Local}

-- by a verdict, where the whole walk has so many trials
abbrev pub grade_by : ℕ → Outcome → Grade
grade_by trials NoSolution = grade.NoSolution
grade_by trials (OneSolution g) = grade.BySearch trials
grade_by trials (SeveralSolutions g h) = grade.SeveralSolutions
grade_by trials (GaveUp found) = grade.GaveUp

-- by the walk of the rules' start board, with that budget
unfoldable pub searched_grade : RuleSystem → ℕ → Grade
searched_grade rules budget =
    grade_by (trials_in (walk rules 0 rules.start)) (verdict_of rules budget)

-- a rule set with its name
pub record NamedRules : Type 0 where
  pub set : GradedRules
  pub rules : RuleSystem

-- by the first of the rule sets whose closure of the start board is full, and its grid a solution
abbrev pub first_settled : List NamedRules → Grade → Grade
first_settled [] otherwise = otherwise
first_settled (first ∷ rest) otherwise =
    if is_settled first.rules then grade.ByRules first.set else first_settled rest otherwise

-- the rules that were tried last: those of the first set that settles the puzzle, and else those of
-- the last in the list
abbrev pub last_tried : RuleSystem → List NamedRules → RuleSystem
last_tried before [] = before
last_tried before (first ∷ rest) =
    if is_settled first.rules then first.rules else last_tried first.rules rest

-- by the rule sets in turn, and else by a search with rules of its own
abbrev pub listed_grade : List NamedRules → RuleSystem → ℕ → Grade
listed_grade sets search budget = first_settled sets (searched_grade search budget)

-- a list of one
abbrev pub only_set : GradedRules → RuleSystem → List NamedRules
only_set set rules = record { set = set; rules = rules } ∷ []

-- some grid is a solution, and no other is
abbrev pub HasOneSolution : (List ℕ → Type 0) → Type 0
HasOneSolution solves = (g : List ℕ) × solves g × ((h : List ℕ) → solves h → g ≡ h)

-- what a grade means: exactly one grid is a solution; none is; two different ones are; nothing
abbrev pub IsRightGrade : (List ℕ → Type 0) → Grade → Type 0
IsRightGrade solves (grade.ByRules set) = HasOneSolution solves
IsRightGrade solves (grade.BySearch trials) = HasOneSolution solves
IsRightGrade solves grade.NoSolution = (g : List ℕ) → solves g → ⊥
IsRightGrade solves grade.SeveralSolutions = (g : List ℕ) × (h : List ℕ) × solves g × solves h × (g ≢ h)
IsRightGrade solves grade.GaveUp = ⊤

abbrev pub rule_set_text : GradedRules → Text
rule_set_text Singles = codes "singles"
rule_set_text Houses = codes "houses"
rule_set_text Crossings = codes "crossings"
rule_set_text Lines = codes "lines"
rule_set_text Local = codes "local"

abbrev pub grade_text : Grade → Text
grade_text (grade.ByRules set) = rule_set_text set
grade_text (grade.BySearch trials) = codes "search " ++ decimal trials
grade_text grade.NoSolution = codes "none"
grade_text grade.SeveralSolutions = codes "several"
grade_text grade.GaveUp = codes "gave up"

abbrev pub grade_status : Grade → ℕ
grade_status (grade.ByRules set) = code_of status.Fine
grade_status (grade.BySearch trials) = code_of status.Fine
grade_status grade.NoSolution = code_of status.Wrong
grade_status grade.SeveralSolutions = code_of status.Several
grade_status grade.GaveUp = code_of status.GaveUp

-- the grade's line, and the lines of a trace of these rules, with the names of what they visit
pub record SaysGrade (given : Grade) (traced : Bool) (name : ℕ → Text) (rules : RuleSystem)
    (answer : Answer) : Type 0 where
  pub lines : Text
  pub trace : IsTrace traced name rules lines
  pub text : answer.text ≡ grade_text given ++ codes "\n" ++ lines
  pub status : answer.status ≡ grade_status given
