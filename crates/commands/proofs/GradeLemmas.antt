-- Grades: what they mean, how they go along with verdicts, and their texts.
use Rattle.commands.proofs.Common.{Answer, Begins, BeginsTrace, Bool, ByRules, BySearch, Candidates, Crossings, Delivers, Found, Grade, HasOneSolution, IsClosed, IsGraded, IsInside, IsLawful, IsRight, IsRightGrade, IsTrace, List, Mark, Mark.Trial, NamedRules, NamesSetNoStrongerThanSearch, None, Option, Outcome, Outcome.GaveUp, Outcome.NoSolution, Outcome.OneSolution, Outcome.SeveralSolutions, PutsTrace, PuzzleFacts, GradedRules, RuleSystem, SaysClosing, SaysGrade, Solo, Solves, Some, StatusesAgree, Text, [], and_from, and_parts, ap, append-nil, append_assoc, arith, at_cell, branch_at, branches, cases_eq, closure_closed, closure_inside, closure_largest, codes, common_steps, cond_both, count_below-one, crossings_rules, false, false_from_ne_true, first_settled, grade_by, grade_status, grade_text, grid_of, houses_rules, inl, inr, is_dead, is_full, is_settled, is_within_search, last_tried, least_below-passes, length, length-append, length-map, listed_grade, only, only_set, outcome, refl, refused, rule_set_text, scopes_of, searched_grade, singles_rules, slice_index, spent, subst, suc, sym, trials_in, true, true≢false, verdict_answer, verdict_of, walk, walk_closed, zero, ℕ, ◌*◌, ◌++◌, ◌+◌, ◌<◌, ◌↔◌, ◌∙◌, ◌∷◌, ◌≡◌, ◌≢◌, ◌≤◌, ◌⊎◌}
use Rattle.grid_core.proofs.GridLemmas.{grid_of-at, is_full-count}
use Rattle.engine_core.specs.Closing.{closure}
use Rattle.engine_core.proofs.JudgeLemmas.{dead_not_full, grid-fits}
use Rattle.engine_core.proofs.WalkLemmas.{walk-unfold, walk_closed-dead, walk_closed-full}
use Rattle.maker_core.proofs.FirstTries.{found_at_once, found_one}
use Rattle.engine_core.specs.HouseSets.{Decision}
use Rattle.solo_core.specs.RuleSets.{deciding}
use Rattle.commands.proofs.RunLemmas.{TakesBoth, WroteIfAny, says_as}
use Rattle.commands.proofs.SearchedPuzzles.{SearchedPuzzle, verdict_right}

-- A puzzle is settled exactly where its verdict without a trial is one, and its grade goes along with its verdict; and so what is
-- told of the two.

-- a full board whose grid is no solution has no marks
walk_closed-wrong : (p : RuleSystem) (walk_of : Candidates → List Mark) (d : ℕ) (E : Candidates) → is_dead p.cells p.values E ≡ false
    → is_full p.cells p.values E ≡ true → p.is_solution (grid_of p.cells p.values E) ≡ false → walk_closed p walk_of d E ≡ []
walk_closed-wrong p walk_of d E alive full bad = walk_closed-full p walk_of d E alive full ∙ rw bad refl

-- the branches of a cell begin with a trial, or there are none
begins_with_trial : (walk_of : Candidates → List Mark) (d : ℕ) (E : Candidates) (cell n : ℕ)
    → (branches walk_of d E cell n ≡ []) ⊎ ((depth : ℕ) × (board : Candidates) × (rest : List Mark) × (branches walk_of d E cell n ≡ Trial depth board ∷ rest))
unfolding branches branch_at
begins_with_trial walk_of d E cell zero = inl refl
begins_with_trial walk_of d E cell (suc n) = elim (begins_with_trial walk_of d E cell n) [
  | inl none ↦ by (E cell n) refl none
  | inr w ↦ inr (w.0, w.1, w.2 ++ branch_at walk_of d E cell n, ap (λ m. m ++ branch_at walk_of d E cell n) w.3)
]
  where
    by : (b : Bool) → E cell n ≡ b → branches walk_of d E cell n ≡ []
        → (branches walk_of d E cell n ++ branch_at walk_of d E cell n ≡ [])
        ⊎ ((depth : ℕ) × (board : Candidates) × (rest : List Mark) × (branches walk_of d E cell n ++ branch_at walk_of d E cell n ≡ Trial depth board ∷ rest))
    by true on none = inr (suc d, only E cell n, walk_of (only E cell n), ap (λ m. m ++ branch_at walk_of d E cell n) none ∙ rw on refl)
    by false off none = inl (ap (λ m. m ++ branch_at walk_of d E cell n) none ∙ rw off refl)

-- without a trial nothing is found below an open board
none_below : (p : RuleSystem) (walk_of : Candidates → List Mark) (d : ℕ) (E : Candidates) (o : Option ℕ) (g : List ℕ)
    → outcome 0 None (at_cell p walk_of d E o) ≡ OneSolution g → ⊥
unfolding at_cell outcome
none_below p walk_of d E o g same = grind (arith, common_steps, begins_with_trial)

-- a full board is not dead
full_alive : (cells values : ℕ) (K : Candidates) → is_full cells values K ≡ true → is_dead cells values K ≡ false
full_alive cells values K full = false_from_ne_true _ (λ dead. true≢false (sym full ∙ dead_not_full cells values K dead))

-- the walk from a full board whose grid is a solution finds that grid
full_walk : (p : RuleSystem) (walk_of : Candidates → List Mark) (E : Candidates) → is_full p.cells p.values E ≡ true
    → p.is_solution (grid_of p.cells p.values E) ≡ true → walk_closed p walk_of 0 E ≡ Found (grid_of p.cells p.values E) ∷ []
unfolding walk_closed
full_walk p walk_of E full good = rw (full_alive p.cells p.values E full) (rw full (rw good refl))

module _ {p : RuleSystem} (laws : IsLawful p) where
  start_walk : walk p 0 p.start ≡ walk_closed p (walk p 1) 0 (closure p p.start)
  start_walk = walk-unfold p 0 p.start laws.start_within

  pub settled_found : is_settled p ≡ true → (budget : ℕ) → verdict_of p budget ≡ OneSolution (grid_of p.cells p.values (closure p p.start))
  settled_found same budget = grind (arith, common_steps, and_parts, found_one, full_walk, start_walk)

  nothing : {marks : List Mark} (g : List ℕ) → walk p 0 p.start ≡ marks → marks ≡ [] → verdict_of p 0 ≡ OneSolution g → ⊥
  unfolding outcome
  nothing g is none e = grind (arith, common_steps)

  pub one_settled : (g : List ℕ) → verdict_of p 0 ≡ OneSolution g → is_settled p ≡ true
  unfolding walk_closed
  one_settled g same = grind (arith, common_steps, and_from, none_below, nothing, start_walk, walk_closed-dead, walk_closed-wrong)

  -- a verdict without a trial that is not one
  pub unsettled : {verdict : Outcome} → verdict_of p 0 ≡ verdict → ((g : List ℕ) → verdict ≡ OneSolution g → ⊥) → false ≡ is_settled p
  unsettled is other = sym (false_from_ne_true _ (λ settled. other _ (sym is ∙ settled_found settled 0)))

-- what the weaker rules settle, the stronger ones settle
module _ {weak strong : RuleSystem} (weak_laws : IsLawful weak) (strong_laws : IsLawful strong)
    (same_cells : strong.cells ≡ weak.cells) (same_values : strong.values ≡ weak.values) (same_start : strong.start ≡ weak.start)
    (solves_too : (g : List ℕ) → Solves weak g → Solves strong g)
    (closes_too : (K : Candidates) → IsClosed strong K → IsClosed weak K) where
  inside_weak : IsInside (closure strong strong.start) (closure weak weak.start)
  inside_weak = closure_largest weak weak_laws _ weak.start
      (closes_too (closure strong strong.start) (closure_closed strong strong.start strong_laws.start_within))
      (subst (IsInside (closure strong strong.start)) same_start (closure_inside strong strong.start))

  pub settled_by_stronger : is_settled weak ≡ true → is_settled strong ≡ true
  settled_by_stronger settled =
      let parts =
      and_parts _
      (weak.is_solution (grid_of weak.cells weak.values (closure weak weak.start))) settled in
      one_settled strong_laws _
      (found_at_once strong_laws (solved parts.0 parts.1)
      (λ c v lc lv on.
      let here = inside_weak c v on in
      let lw : c < weak.cells = omega (arith, same_cells, lc) in
      let one = is_full-count weak.cells weak.values _ c parts.0 lw in
      let least = least_below-passes _ weak.values (omega (arith, one)) in
      count_below-one (closure weak weak.start c) weak.values v _ (omega (arith, one)) (omega (arith, same_values, lv)) least.0 here least.1
      ∙ sym (grid_of-at weak.cells weak.values _ c lw)) 0)
    where
      solved : is_full weak.cells weak.values (closure weak weak.start) ≡ true
          → weak.is_solution (grid_of weak.cells weak.values (closure weak weak.start)) ≡ true
          → Solves strong (grid_of weak.cells weak.values (closure weak weak.start))
      solved full good = solves_too (grid_of weak.cells weak.values (closure weak weak.start)) (record {
        grid = grid-fits weak _ _ weak.cells weak.values refl refl full refl;
        good = good;
      })

-- ---- statuses
pub verdict_status : Outcome → ℕ
verdict_status NoSolution = 1
verdict_status (OneSolution g) = 0
verdict_status (SeveralSolutions g h) = 3
verdict_status (GaveUp found) = 4

pub told_status : (printed : List ℕ → Text) (o : Outcome) → (verdict_answer printed o).status ≡ verdict_status o
unfolding verdict_status
told_status printed (GaveUp None) = refl
told_status printed o = refl

-- a grade by a search has the verdict's status
by_status : (trials : ℕ) (o : Outcome) → grade_status (grade_by trials o) ≡ verdict_status o
unfolding verdict_status
by_status trials (GaveUp found) = refl
by_status trials o = refl

one_status : {o : Outcome} (g : List ℕ) → o ≡ OneSolution g → 0 ≡ verdict_status o
unfolding verdict_status
one_status g e = sym (ap verdict_status e)

pub status_one : (o : Outcome) → verdict_status o ≡ 0 → (g : List ℕ) × (o ≡ OneSolution g)
unfolding verdict_status
status_one (OneSolution g) e = (g, refl)
status_one o e = absurd (omega (arith, e))

-- ---- what a grade means beside a verdict
-- a grade that names a rule set or a search is that of a puzzle with one solution
pub graded_one : (solves : List ℕ → Type 0) (grade : Grade) → IsRightGrade solves grade → grade_status grade ≡ 0 → HasOneSolution solves
graded_one solves (ByRules set) right e = right
graded_one solves (BySearch trials) right e = right
graded_one solves grade right e = absurd (omega (arith, e))

-- a verdict that is right of a puzzle with one solution is that one, or that the search gave up
one_or_out : (solves : List ℕ → Type 0) (o : Outcome) → IsRight solves o → HasOneSolution solves → verdict_status o ≢ 4 → 0 ≡ verdict_status o
unfolding verdict_status
one_or_out solves o right one_solution differ = grind (arith, common_steps)

-- a list of rule sets gives the name of one, or the grade by the search
pub named_or_searched : (sets : List NamedRules) (otherwise : Grade)
    → ((set : GradedRules) × (first_settled sets otherwise ≡ ByRules set)) ⊎ (first_settled sets otherwise ≡ otherwise)
named_or_searched [] otherwise = inr refl
named_or_searched (first ∷ rest) otherwise =
    cond_both (is_settled first.rules) _ _ (λ g. ((set : GradedRules) × (g ≡ ByRules set)) ⊎ (g ≡ otherwise))
    (λ _. inl (first.set, refl)) (λ _. named_or_searched rest otherwise)

pub statuses_agree : (sets : List NamedRules) (search : RuleSystem) (solves : List ℕ → Type 0) (budget : ℕ)
    → IsRight solves (verdict_of search budget) → IsRightGrade solves (listed_grade sets search budget)
    → StatusesAgree (grade_status (listed_grade sets search budget)) (verdict_status (verdict_of search budget))
unfolding searched_grade
statuses_agree sets search solves budget verdict grade = by (named_or_searched sets (searched_grade search budget))
  where
    by : ((set : GradedRules) × (listed_grade sets search budget ≡ ByRules set)) ⊎ (listed_grade sets search budget ≡ searched_grade search budget)
        → StatusesAgree (grade_status (listed_grade sets search budget)) (verdict_status (verdict_of search budget))
    by (inr is) = inl (ap grade_status is ∙ by_status (trials_in (walk search 0 search.start)) (verdict_of search budget))
    by (inl named) =
        let fine = ap grade_status named.1 in
        elim (cases_eq (verdict_status (verdict_of search budget)) 4) [
          | inl out ↦ inr (fine, out)
          | inr told ↦ inl (fine ∙ one_or_out solves (verdict_of search budget) verdict (graded_one solves (listed_grade sets search budget) grade fine) told)
        ]

-- ---- which rule sets need no trial
-- whether a grade is by a rule set that strikes no more than the search's rules
pub is_within : Grade → Bool
is_within (ByRules set) = is_within_search set
is_within grade = false

searched_apart : (trials : ℕ) (o : Outcome) → is_within (grade_by trials o) ≡ false
unfolding is_within
searched_apart trials (GaveUp found) = refl
searched_apart trials o = refl

-- rule sets that may strike more than the search's rules
abbrev pub AreBeyond : List NamedRules → Type 0
AreBeyond [] = Unit {0}
AreBeyond (first ∷ rest) = (is_within_search first.set ≡ false) × AreBeyond rest

module _ (search : RuleSystem) (budget : ℕ) where
  beyond : (sets : List NamedRules) → AreBeyond sets → is_within (listed_grade sets search budget) ≡ false
  unfolding searched_grade is_within
  beyond [] none = searched_apart (trials_in (walk search 0 search.start)) (verdict_of search budget)
  beyond (first ∷ rest) none =
      cond_both (is_settled first.rules) _ _ (λ g. is_within g ≡ false) (λ _. none.0) (λ _. beyond rest none.1)

  -- the search's own rules, and after them others that may strike more
  pub own_named : (set : GradedRules) (rest : List NamedRules) → is_within_search set ≡ true → AreBeyond rest
      → is_within (listed_grade (record { set = set; rules = search } ∷ rest) search budget) ≡ is_settled search
  unfolding is_within
  own_named set rest same h2 = grind (arith, common_steps, beyond, is_within)

  -- one more rule set before the others, where what it settles the search's rules settle
  pub weaker_named : (set : GradedRules) (weak : RuleSystem) (rest : List NamedRules)
      → is_within_search set ≡ true → (is_settled weak ≡ true → is_settled search ≡ true)
      → is_within (listed_grade rest search budget) ≡ is_settled search
      → is_within (listed_grade (record { set = set; rules = weak } ∷ rest) search budget) ≡ is_settled search
  unfolding is_within
  weaker_named set weak rest same each is = grind (arith, common_steps, is_within)

-- ---- what is told
-- the first two bytes of a text
marks : Text → ℕ
marks text = slice_index text 0 + 1000 * slice_index text 1

named_is : (grade : Grade) (lines rest : Text) (set : GradedRules) → is_within_search set ≡ true
    → grade_text grade ++ codes "\n" ++ lines ≡ (rule_set_text set ++ codes "\n") ++ rest → is_within grade ≡ true
unfolding is_within marks
named_is grade lines rest set same is = grind (arith, common_steps, marks, true≢false)

names_it : (grade : Grade) (lines : Text) → is_within grade ≡ true
    → (set : GradedRules) × (is_within_search set ≡ true) × Begins (rule_set_text set ++ codes "\n") (grade_text grade ++ codes "\n" ++ lines)
unfolding is_within
names_it (ByRules set) lines e = (set, e, (lines, refl))
names_it grade lines e = absurd cc

-- a refusal names no rule set
none_named : (cause : Text) → NamesSetNoStrongerThanSearch (refused cause) → ⊥
unfolding marks
none_named cause (Crossings, within, (rest, e)) = absurd (true≢false (sym within))
none_named cause (set, within, (rest, e)) = absurd (omega (arith, ap marks e))

pub refusals_apart : (cause : Text) → NamesSetNoStrongerThanSearch (refused cause) ↔ ((refused cause).status ≡ 0)
refusals_apart cause = grind (arith, common_steps, none_named)

module _ {traced : Bool} {name : ℕ → Text} {tried : RuleSystem} (printed : List ℕ → Text) {solved graded : Answer} where
  pub status_alike : {grade : Grade} (o : Outcome) → StatusesAgree (grade_status grade) (verdict_status o) → SaysGrade grade traced name tried graded
      → solved ≡ verdict_answer printed o → StatusesAgree graded.status solved.status
  status_alike o along told is = rw (told.status, is, told_status printed o) along

  pub named_alike : (grade : Grade) {rules : RuleSystem} → IsLawful rules → is_within grade ≡ is_settled rules → SaysGrade grade traced name tried graded
      → solved ≡ verdict_answer printed (verdict_of rules 0) → NamesSetNoStrongerThanSearch graded ↔ (solved.status ≡ 0)
  named_alike grade {rules} laws within told is = (
    λ named. let by = named_is grade told.lines named.2.0 named.0 named.1 (sym told.text ∙ named.2.1) in
        is_status ∙ sym (one_status _ (settled_found laws (sym within ∙ by) 0)),
    λ zero_status. let one = status_one _ (sym is_status ∙ zero_status) in
        let w = names_it grade told.lines (within ∙ one_settled laws one.0 one.1) in
        (w.0, w.1, subst (Begins (rule_set_text w.0 ++ codes "\n")) (sym told.text) w.2),
  )
    where
      is_status : solved.status ≡ verdict_status (verdict_of rules 0)
      is_status = ap (λ a. a.status) is ∙ told_status printed _

-- What grades mean of the games' own solutions, and how their texts and traces are told.

-- where one grid is found, all trials of the walk were made
pub spent_whole : (budget : ℕ) (found : Option (List ℕ)) (marks : List Mark) (g : List ℕ) → outcome budget found marks ≡ OneSolution g
    → spent budget found marks ≡ trials_in marks
unfolding outcome spent trials_in
spent_whole budget found [] g e = refl
spent_whole budget None (Found h ∷ marks) g e = spent_whole budget (Some h) marks g e
spent_whole budget (Some first) (Found h ∷ marks) g e = absurd cc
spent_whole zero found (Trial depth board ∷ marks) g e = absurd cc
spent_whole (suc budget) found (Trial depth board ∷ marks) g e = ap suc (spent_whole budget found marks g e)

pub grade_is : (rules : RuleSystem) (budget : ℕ) {verdict : Outcome} → verdict_of rules budget ≡ verdict
    → grade_by (trials_in (walk rules 0 rules.start)) verdict ≡ searched_grade rules budget
unfolding searched_grade
grade_is rules budget e = grind (arith, common_steps)

-- a puzzle that is settled has the grid of its closure as its one solution
pub settled_one : {rules : RuleSystem} {solves : List ℕ → Type 0} → SearchedPuzzle rules solves → is_settled rules ≡ true → HasOneSolution solves
settled_one {solves} searched settled =
    let right = subst (IsRight solves) (settled_found searched.lawful settled 0) (verdict_right searched 0) in
    (_, right.0, right.1)

-- a grade that is right of the one is right of the other, where they are the same
pub right_as : (A B : List ℕ → Type 0) (grade : Grade) → ((g : List ℕ) → A g ↔ B g) → IsRightGrade A grade → IsRightGrade B grade
right_as A B (ByRules set) same right = (right.0, (same right.0).0 right.1, λ h solves. right.2 h ((same h).1 solves))
right_as A B (BySearch trials) same right = (right.0, (same right.0).0 right.1, λ h solves. right.2 h ((same h).1 solves))
right_as A B Grade.NoSolution same right = λ g solves. right g ((same g).1 solves)
right_as A B Grade.SeveralSolutions same right = (right.0, right.1, (same right.0).0 right.2, (same right.1).0 right.3, right.4)
right_as A B Grade.GaveUp same right = tt

-- the grids that rules accept are the solutions, and a grade is right of both
pub right_by : {p q : RuleSystem} (solves : List ℕ → Type 0) (grade : Grade) → q ≡ p → ((g : List ℕ) → Solves p g ↔ solves g)
    → IsRightGrade (Solves q) grade → IsRightGrade solves grade
right_by {p} solves grade e same right = grind (arith, common_steps, right_as)

pub accepted_by : {p q : RuleSystem} (solves : List ℕ → Type 0) → q ≡ p → ((g : List ℕ) → Solves p g ↔ solves g) → (g : List ℕ) → Solves q g ↔ solves g
accepted_by solves e same = grind (arith, common_steps)

-- the last rules in the list were tried last, whether they settle the puzzle or not
pub last_of_one : (before : RuleSystem) (set : GradedRules) {rules : RuleSystem} → rules ≡ last_tried before (only_set set rules)
last_of_one before set = grind (arith, common_steps)

module _ {P : Type 0} (play : PuzzleFacts P) (p : P) (budget : ℕ) (traced : Bool) {S : Type 0} (takes : S → Text → S → Type 0) (s t : S) (status : ℕ) where
  -- what is said of a list of rule sets, and of the last of them that was tried
  abbrev pub SaysBy : List NamedRules → Type 0
  SaysBy sets = WroteIfAny takes (IsGraded play sets budget traced p) s t status

  abbrev pub SaysLast : Grade → RuleSystem → Type 0
  SaysLast grade rules = WroteIfAny takes (SaysGrade grade traced (play.game.visit_name p) rules) s t status

  rightly : (sets : List NamedRules) → IsRightGrade (play.game.solves p) (listed_grade sets (play.game.rules p) budget)
      → SaysLast (listed_grade sets (play.game.rules p) budget) (last_tried (play.game.rules p) sets) → SaysBy sets
  rightly sets right told = says_as (λ a said. record { right = right; said = said }) told

  -- the last in the list
  pub said_last : (grade : Grade) (set : GradedRules) (rules : RuleSystem) → grade ≡ listed_grade (only_set set rules) (play.game.rules p) budget
      → IsRightGrade (play.game.solves p) grade → SaysLast grade rules → SaysBy (only_set set rules)
  said_last grade set rules e right told = grind (arith, common_steps, rightly, last_of_one)

  -- the first in the list settles the puzzle
  pub said_first : (set : GradedRules) {rules : RuleSystem} (rest : List NamedRules) → is_settled rules ≡ true
      → SearchedPuzzle rules (play.game.solves p) → SaysLast (ByRules set) rules
      → SaysBy (record { set = set; rules = rules } ∷ rest)
  said_first set {rules} rest settled searched told =
      rightly (record { set = set; rules = rules } ∷ rest) (rw settled (settled_one searched settled)) (rw settled told)

  -- the first of two or more in the list doesn't
  pub said_later : {q : RuleSystem} (set : GradedRules) {rules : RuleSystem} (next : NamedRules) (rest : List NamedRules) → q ≡ rules → is_settled q ≡ false
      → SaysBy (next ∷ rest) → SaysBy (record { set = set; rules = rules } ∷ next ∷ rest)
  said_later set {rules} next rest e unsettled told = grind (arith, common_steps, says_as)

  -- rules that were made for a puzzle are its own
  pub said_by : {q r : RuleSystem} (set : GradedRules) (rest : List NamedRules) → q ≡ r
      → SaysBy (record { set = set; rules = q } ∷ rest) → SaysBy (record { set = set; rules = r } ∷ rest)
  said_by set rest e told = subst (λ x. SaysBy (record { set = set; rules = x } ∷ rest)) e told

module _ {S : Type 0} {takes : S → Text → S → Type 0} {grade : Grade} {traced : Bool} {name : ℕ → Text} {rules : RuleSystem} where
  -- the rest was delivered
  pub said_whole : TakesBoth takes → {s t u : S} {line rest : Text} {a : Answer} {status : ℕ}
      → line ≡ grade_text grade ++ codes "\n" → PutsTrace takes traced name rules s line rest t
      → Delivers takes t a u status → a.text ≡ rest → a.status ≡ grade_status grade → WroteIfAny takes (SaysGrade grade traced name rules) s u status
  said_whole both {s} {t} {u} {line} is p d same ends = record {
    written = p.put.done ++ d.written;
    took = both s t u p.put.done d.written p.put.took d.took;
    begun = inr (
      record { text = line ++ p.lines; status = grade_status grade },
      record { lines = p.lines; trace = p.trace; text = ap (λ l. l ++ p.lines) is; status = refl },
      (
        d.begun.0,
        p.put.split ∙ ap (λ l. p.put.done ++ l) (sym same ∙ d.begun.1) ∙ sym (append_assoc p.put.done d.written d.begun.0),
      ),
    );
    whole = λ small. record {
      lines = p.lines;
      trace = p.trace;
      text = ap (λ l. p.put.done ++ l) ((d.whole small).0 ∙ same) ∙ sym p.put.split ∙ ap (λ l. l ++ p.lines) is;
      status = (d.whole small).1 ∙ ends;
    };
  }

  -- a beginning was put
  pub said_begun : {s u : S} (line : Text) (status : ℕ) → line ≡ grade_text grade ++ codes "\n" → BeginsTrace takes traced name rules s line u → 5 ≤ status
      → WroteIfAny takes (SaysGrade grade traced name rules) s u status
  said_begun line status is p high = record {
    written = p.begun.done;
    took = p.begun.took;
    begun = inr (
      record { text = line ++ p.lines; status = grade_status grade },
      record { lines = p.lines; trace = p.trace; text = ap (λ l. l ++ p.lines) is; status = refl },
      p.begun.begun,
    );
    whole = λ small. absurd (omega arith);
  }

-- the lines of a closing are those of a trace that is asked for
pub is_traced : (traced : Bool) {queue : Bool} (name : ℕ → Text) (rules : RuleSystem) (lines : Text) → traced ≡ true → rules.by_queue ≡ queue
    → SaysClosing queue name rules lines → IsTrace traced name rules lines
is_traced true name rules lines e mode said = subst (λ b. SaysClosing b name rules lines) (sym mode) said
is_traced false name rules lines e mode said = absurd (true≢false (sym e))

-- no trace was asked for
pub untraced : {S : Type 0} {takes : S → Text → S → Type 0} (traced : Bool) {name : ℕ → Text}
    {rules : RuleSystem} {s : S} {text : Text} → takes s [] s → traced ≡ false
    → PutsTrace takes traced name rules s text text s
untraced true nothing is = absurd (true≢false is)
untraced false {text} nothing is = record { lines = []; trace = refl; put = record { done = []; took = nothing; split = append-nil text } }

-- what the rule sets of Solo visit has a name: houses first, and then crossings
over_houses : (decides : Decision) (p : Solo) → length (deciding decides p) ≤ length (scopes_of p)
over_houses decides p = grind (arith, common_steps, length-map, length-append)

pub singles_named : (p : Solo) → (singles_rules p).houses ≤ length (scopes_of p)
singles_named p = over_houses _ p

pub houses_named : (p : Solo) → (houses_rules p).houses ≤ length (scopes_of p)
houses_named p = over_houses _ p

pub crossings_named : (p : Solo) → (crossings_rules p).houses ≤ length (scopes_of p)
crossings_named p = grind (arith, common_steps, length-append, length-map)

pub named : (p : Solo) {q rules : RuleSystem} → q ≡ rules → rules.houses ≤ length (scopes_of p) → q.houses ≤ length (scopes_of p)
named p e few = subst (λ r. r.houses ≤ length (scopes_of p)) (sym e) few
