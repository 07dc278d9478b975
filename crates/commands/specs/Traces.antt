-- How a closing is said: a line for each visit in order, or one line for all sweeps.
use Rattle.std.specs.Prelude.{◌≡◌, ◌++◌, ℕ, Bool, true, false, List, [], length, slice_index, codes, decimal}
use Rattle.engine_core.specs.ClosingList.{IsClosingList, IsClosingSweeps}
use Rattle.commands.specs.Common.{RuleSystem}
use Rattle.commands.specs.Answers.{Text}
use Rattle.gameid_core.specs.GridTexts.{each_below}

abbrev pub visit_line : Text → Text
visit_line name = name ++ codes "\n"

-- a line for each visit, by the names of what was visited
abbrev pub visits_text : (ℕ → Text) → List ℕ → Text
visits_text name visits = each_below (λ k. visit_line (name (slice_index visits k))) (length visits)

abbrev pub sweeps_text : ℕ → Text
sweeps_text sweeps = codes "sweeps " ++ decimal sweeps ++ codes "\n"

-- the lines say visits that close the rules' start board
pub record SaysVisits (name : ℕ → Text) (rules : RuleSystem) (lines : Text) : Type 0 where
  pub visits : List ℕ
  pub closing : IsClosingList rules rules.start visits
  pub said : lines ≡ visits_text name visits

-- the line says how many sweeps close the rules' start board
pub record SaysSweeps (rules : RuleSystem) (lines : Text) : Type 0 where
  pub sweeps : ℕ
  pub closing : IsClosingSweeps rules rules.start sweeps
  pub said : lines ≡ sweeps_text sweeps

-- the lines say how the rules close their start board: in a queue by visits, or else by sweeps
abbrev pub SaysClosing : Bool → (ℕ → Text) → RuleSystem → Text → Type 0
SaysClosing true name rules = SaysVisits name rules
SaysClosing false name rules = SaysSweeps rules

-- the lines of a trace where one is asked for, and else none
abbrev pub IsTrace : Bool → (ℕ → Text) → RuleSystem → Text → Type 0
IsTrace true name rules lines = SaysClosing rules.by_queue name rules lines
IsTrace false name rules lines = lines ≡ []
