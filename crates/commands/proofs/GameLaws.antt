-- What the laws rest on for each game, and least budgets.
use Rattle.commands.proofs.Common.{AllowsCheck, AllowsGrid, AllowsSolve, Answer, ArePassed, Bool, ByRules, BySearch, Crossings, Err, Game, Grade, GradedPuzzlesHaveOne, HasAnswers, HasOneAnswer, HasOneReading, HasOneSolution, HasTwo, Houses, IdFault, IsLeastBudget, IsOnlySolution, IsPrinted, IsRight, IsRightGrade, IsSolo, IsSolved, Lines, List, Local, MadePuzzle, Mark, NamedRules, NamesSearch, NamesSet, None, Option, Outcome, Outcome.GaveUp, Outcome.NoSolution, Outcome.OneSolution, Outcome.SeveralSolutions, Passes, PuzzleFacts, Result, RuleSystem, SaysGrade, SearchesNameLeastBudgets, Singles, SizeRead, Solo, Solves, Some, Text, TooLong, Wanted, [], ap, arith, codes, common_steps, cond_both, crossings_rules, drop, eq-or-lt_of_le, game_of, gave_up_answer, grade_by, grade_text, houses_rules, inl, inr, is_ok, is_settled, length, light_is_written, light_reading, light_rules, line_rules, listed_grade, max_id, one_answer, only_set, outcome, pattern_is_written, pattern_reading, printed_by, puzzle_type, puzzle_too_long, refl, refused, searched_grade, singles_rules, slice_index, solo_is_written, solo_reading, solo_sets, subst, sym, tent_rules, tents_is_written, tents_reading, trials_in, true, verdict_answer, verdict_of, walk, without_returns, ℕ, ◌++◌, ◌<◌, ◌↔◌, ◌∙◌, ◌∷◌, ◌≡◌, ◌≢◌, ◌≤◌, ◌⊎◌}
use Rattle.gameid_core.specs.declared.id.game.Game.TheVariants as game
use Rattle.commands.specs.CheckAnswers.{checked as correct_or}
use Rattle.commands.proofs.GradeLemmas.{graded_one, is_within, named_or_searched, own_named, settled_one, spent_whole, status_one, told_status, weaker_named}
use Rattle.commands.proofs.Readings.{answer_to, id_once}
use Rattle.commands.proofs.CheckedPuzzles.{CheckedPuzzle, correct_grid, light_checked, pattern_checked, printed_apart, solo_checked, tents_checked}
use Rattle.commands.proofs.RuleSetOrder.{houses_settle}
use Rattle.commands.proofs.SearchedPuzzles.{SearchedPuzzle, crossings_searched, found_with_enough, light_searched, pattern_searched, singles_searched, solo_searched, solved_once, tents_searched, verdict_right}
use Rattle.engine_core.proofs.SearchLemmas.{spent-le}

-- What the laws rest on, for each game; and what is told of an ID beside its verdict: a grid that is told passes, what is
-- handed out is solved, and an input that is correct is a solution.

same_status : {a b : Answer} → a ≡ b → a.status ≡ b.status
same_status e = ap (λ c. c.status) e

module _ {P : Type 0} (play : PuzzleFacts P) (reading : HasOneReading play.game.spells play.game.reading) where
  -- the verdict is one, of that grid
  pub found_alone : (id : Text) (p : P) (budget : ℕ) (g : List ℕ) (said : Answer)
      → play.game.spells id p → verdict_of (play.game.rules p) budget ≡ OneSolution g
      → IsOnlySolution (play.game.solves p) g
      → AllowsSolve play id budget said ↔ (said ≡ one_answer (printed_by play p g))
  found_alone id p budget g said s verdict only = grind (arith, common_steps, answer_to)

  -- with two solutions no verdict is one
  pub never_one : (id : Text) (p : P) (any : ℕ) (said : Answer) → play.game.spells id p → HasTwo (play.game.rules p)
      → ((g : List ℕ) → Solves (play.game.rules p) g → play.game.solves p g)
      → AllowsSolve play id any said → said.status ≢ 0
  never_one id p any said spells two each allows_solve = grind (arith, common_steps, status_one, told_status)

-- what is spelled is read
pub spelled_read : {P : Type 0} {of : Text → Result P IdFault} {spells : Text → P → Type 0} → HasOneReading spells of
    → (id : Text) (p : P) → spells id p → is_ok (of id) ≡ true
spelled_read one_reading id p spells = grind (arith, common_steps)

module _ {P : Type 0} (play : PuzzleFacts P) (reading : HasOneReading play.game.spells play.game.reading)
    (game : (id : Text) (p : P) → play.game.spells id p → CheckedPuzzle play p) where
  abbrev printed : P → List ℕ → Text
  printed p g = printed_by play p g

  pub passes_as : (id : Text) (p : P) → play.game.spells id p → (g : List ℕ) → play.game.solves p g → (said : Answer)
      → AllowsCheck play id (printed p g) said ↔ (said ≡ correct_or None)
  passes_as id p s g solution said =
      let correct = correct_grid play p (game id p s) g solution said in (
        λ allowed. correct.0 (answer_to reading (λ q. AllowsGrid play q (printed p g)) id p s allowed),
        λ same. inr (record { puzzle = p; spelled = s; allowed = correct.1 same }),
      )

  -- no grid is told
  other_status : (id : Text) {solved said : Answer} → solved ≡ said → said.status ≢ 0
      → said.status ≢ 3 → said.status ≢ 4 → ArePassed (AllowsCheck play id) solved
  other_status id told none nor neither = grind (arith, common_steps, same_status)

  pub passed : (id : Text) (budget : ℕ) (solved : Answer) → AllowsSolve play id budget solved → ArePassed (AllowsCheck play id) solved
  passed id budget solved (inl x) = other_status id x.said (omega arith) (omega arith) (omega arith)
  passed id budget solved (inr x) = by (verdict_of (play.game.rules x.puzzle) budget) x.allowed.right x.allowed.said
    where
      found_so_far : {grid : Text} → solved ≡ gave_up_answer grid
          → (solved ≡ gave_up_answer [])
          ⊎ ((found : Text) × (solved ≡ gave_up_answer found) × Passes (AllowsCheck play id) found) → ArePassed (AllowsCheck play id) solved
      found_so_far told passes = record {
        one = λ e. absurd (let s = same_status told in omega (arith, e, s));
        several = λ e. absurd (let s = same_status told in omega (arith, e, s));
        gave_up = λ e. passes;
      }

      by : (o : Outcome) → IsRight (play.game.solves x.puzzle) o → solved ≡ verdict_answer (printed x.puzzle) o → ArePassed (AllowsCheck play id) solved
      by NoSolution right told = other_status id told (omega arith) (omega arith) (omega arith)
      by (OneSolution g) right told = record {
        one = λ e. (printed x.puzzle g, told, passes_as id x.puzzle x.spelled g right.0);
        several = λ e. absurd (let s = same_status told in omega (arith, e, s));
        gave_up = λ e. absurd (let s = same_status told in omega (arith, e, s));
      }
      by (SeveralSolutions g h) right told = record {
        one = λ e. absurd (let s = same_status told in omega (arith, e, s));
        several = λ e. (
          printed x.puzzle g,
          printed x.puzzle h,
          told,
          printed_apart play x.puzzle (game id x.puzzle x.spelled) right.0 right.1 right.2,
          passes_as id x.puzzle x.spelled g right.0,
          passes_as id x.puzzle x.spelled h right.1,
        );
        gave_up = λ e. absurd (let s = same_status told in omega (arith, e, s));
      }
      by (GaveUp None) right told = found_so_far told (inl told)
      by (GaveUp (Some g)) right told = found_so_far told (inr (printed x.puzzle g, told, passes_as id x.puzzle x.spelled g right))

-- what is said of an ID where an input is correct
pub record GoesWithCorrect (input : Text) (solved : Answer) : Type 0 where
  pub some : solved.status ≢ 1
  pub that : (grid : Text) → solved ≡ one_answer grid → IsPrinted (without_returns input) grid

abbrev pub GoesWith : Text → Answer → Answer → Type 0
GoesWith input given solved = given.status ≡ 0 → GoesWithCorrect input solved

pub refusals_go : (input cause : Text) → GoesWith input (refused cause) (refused cause)
refusals_go input cause e = absurd (omega (arith, e))

same_grid : {a b : Text} → one_answer a ≡ one_answer b → a ≡ b
same_grid e = ap (λ c. drop 4 c.text) e

module _ (solves : List ℕ → Type 0) (printed : List ℕ → Text) {input : Text} (g : List ℕ) (solution : solves g)
    (form : IsPrinted (without_returns input) (printed g)) {solved : Answer} where
  -- neither none is told nor one
  other_told : {said : Answer} → solved ≡ said → said.status ≢ 1 → said.status ≢ 0 → GoesWithCorrect input solved
  other_told told none nor = grind (arith, common_steps, same_status)

  by_verdict : (o : Outcome) → IsRight solves o → solved ≡ verdict_answer printed o → GoesWithCorrect input solved
  by_verdict NoSolution right told = absurd (right g solution)
  by_verdict (OneSolution f) right told = record {
    some = λ e. let s = same_status told in absurd (omega (arith, e, s));
    that = λ grid is. subst (IsPrinted (without_returns input)) (ap printed (sym (right.1 g solution)) ∙ same_grid (sym told ∙ is)) form;
  }
  by_verdict (SeveralSolutions f h) right told = other_told told (omega arith) (omega arith)
  by_verdict (GaveUp None) right told = other_told told (omega arith) (omega arith)
  by_verdict (GaveUp (Some f)) right told = other_told told (omega arith) (omega arith)

-- the answers to a puzzle
pub goes_with : {P : Type 0} {play : PuzzleFacts P} (p : P) {budget : ℕ} {input : Text}
    (given solved : Answer) → CheckedPuzzle play p → AllowsGrid play p input given
    → IsSolved play budget p solved → GoesWith input given solved
goes_with p given solved checked (inr none) s fine = absurd (let e = same_status none.said in omega (arith, fine, e))
goes_with {play} p {budget} given solved checked (inl here) s fine =
    by_verdict (play.game.solves p) _ here.grid (checked.told.sound here.grid given here.said fine)
    here.given.printed _ s.right s.said

right_by_verdict : (solves : List ℕ → Type 0) (trials : ℕ) (o : Outcome) → IsRight solves o → IsRightGrade solves (grade_by trials o)
right_by_verdict solves trials NoSolution right = right
right_by_verdict solves trials (OneSolution g) right = (g, right.0, right.1)
right_by_verdict solves trials (SeveralSolutions g h) right = (g, h, right.0, right.1, right.2)
right_by_verdict solves trials (GaveUp found) right = tt

-- what searches rest on is so of each of these rule sets
abbrev pub EachSearched : (List ℕ → Type 0) → List NamedRules → Type 0
EachSearched solves [] = Unit {0}
EachSearched solves (first ∷ rest) = SearchedPuzzle first.rules solves × EachSearched solves rest

pub listed_right : {solves : List ℕ → Type 0} (sets : List NamedRules) {search : RuleSystem}
    (budget : ℕ) → EachSearched solves sets → SearchedPuzzle search solves
    → IsRightGrade solves (listed_grade sets search budget)
unfolding searched_grade
listed_right {solves} [] {search} budget each searched =
    right_by_verdict solves (trials_in (walk search 0 search.start)) (verdict_of search budget) (verdict_right searched budget)
listed_right {solves} (first ∷ rest) {search} budget each searched =
    cond_both (is_settled first.rules) _ _ (IsRightGrade solves) (settled_one each.0) (λ _. listed_right rest budget each.1 searched)

-- in Solo the singles are named before the search's own rules
solo_named : (p : Solo) → IsSolo p → (budget : ℕ) → is_within (listed_grade (solo_sets p) (houses_rules p) budget) ≡ is_settled (houses_rules p)
solo_named p ok budget = weaker_named (houses_rules p) budget Singles (singles_rules p)
    (record { set = Houses; rules = houses_rules p } ∷ only_set Crossings (crossings_rules p)) refl
    (houses_settle p ok)
    (own_named (houses_rules p) budget Houses (only_set Crossings (crossings_rules p)) refl (refl, tt))

pub record GameLaws {P : Type 0} (play : PuzzleFacts P) : Type 0 where
  -- a text spells one puzzle or has one fault, and what is written for a puzzle spells it
  pub reading : HasOneReading play.game.spells play.game.reading
  pub again : (text : Text) (p : P) → play.game.spells text p → play.game.spells (play.game.written p) p
  -- the rules of the search and of each rule set are lawful and accept the solutions, and checks tell solutions
  pub searched : (text : Text) (p : P) → play.game.spells text p → SearchedPuzzle (play.game.rules p) (play.game.solves p)
  pub listed : (text : Text) (p : P) → play.game.spells text p → EachSearched (play.game.solves p) (play.game.sets p)
  -- where the search's rules settle a puzzle, its grade names them, or weaker ones
  pub named : (text : Text) (p : P) → play.game.spells text p → (budget : ℕ)
      → is_within (listed_grade (play.game.sets p) (play.game.rules p) budget) ≡ is_settled (play.game.rules p)
  pub checked : (text : Text) (p : P) → play.game.spells text p → CheckedPuzzle play p
  -- a puzzle is made with its only solution, which a search tells
  pub made : (size : SizeRead) (w : Wanted) (m : MadePuzzle P) → play.game.makes size w m
      → (verdict_of (play.game.rules m.puzzle) w.budget ≡ OneSolution m.solution) × IsOnlySolution (play.game.solves m.puzzle) m.solution

pub laws_of : (g : Game) → GameLaws (game_of g)
laws_of game.Pattern = record {
  reading = pattern_reading;
  again = λ text p s. (pattern_is_written p s.puzzle).spells;
  searched = λ text p s. pattern_searched p s.puzzle;
  listed = λ text p s. (pattern_searched p s.puzzle, tt);
  named = λ text p s budget. own_named (line_rules p) budget Lines [] refl tt;
  checked = λ text p s. pattern_checked p s.puzzle;
  made = λ size w m made. (made.verdict, made.only);
}
laws_of game.Solo = record {
  reading = solo_reading;
  again = λ text p s. (solo_is_written p s.puzzle).spells;
  searched = λ text p s. solo_searched s.puzzle;
  listed = λ text p s. (singles_searched p s.puzzle, (solo_searched s.puzzle, (crossings_searched p s.puzzle, tt)));
  named = λ text p s. solo_named p s.puzzle;
  checked = λ text p s. solo_checked p s.puzzle;
  made = λ size w m made. (made.verdict, made.only);
}
laws_of game.LightUp = record {
  reading = light_reading;
  again = λ text p s. (light_is_written p s.puzzle).spells;
  searched = λ text p s. light_searched s.puzzle;
  listed = λ text p s. (light_searched s.puzzle, tt);
  named = λ text p s budget. own_named (light_rules p) budget Local [] refl tt;
  checked = λ text p s. light_checked p s.puzzle;
  made = λ size w m made. (made.verdict, made.only);
}
laws_of game.Tents = record {
  reading = tents_reading;
  again = λ text p s. (tents_is_written p s.puzzle).spells;
  searched = λ text p s. tents_searched s.puzzle;
  listed = λ text p s. (tents_searched s.puzzle, tt);
  named = λ text p s budget. own_named (tent_rules p) budget Local [] refl tt;
  checked = λ text p s. tents_checked p s.puzzle;
  made = λ size w m made. (made.verdict, made.only);
}

-- with enough budget a search tells the one solution of a puzzle whose grade names a rule set or a search
pub with_enough : GradedPuzzlesHaveOne
with_enough g id budget traced graded (inl refusal) fine = absurd (omega (arith, fine, ap (λ a. a.status) refusal.said))
with_enough g id budget traced graded (inr answered) fine =
    let of = (game_of g).game in
    let p = answered.puzzle in
    let one = graded_one (of.solves p) _ answered.allowed.right (sym answered.allowed.said.status ∙ fine) in
    record {
      enough = trials_in (walk (of.rules p) 0 (of.rules p).start);
      grid = printed_by (game_of g) p one.0;
      said = λ more room said. found_alone (game_of g) (laws_of g).reading id p more one.0 said answered.spelled
          (found_with_enough ((laws_of g).searched id p answered.spelled) one room) (one.1, λ h other. sym (one.2 h other));
    }

-- a text of more bytes than an ID may have is too long
pub too_long : (g : Game) (text : Text) → max_id < length text → (game_of g).game.reading text ≡ Err TooLong
too_long game.Pattern text over = puzzle_too_long game.Pattern _ text over
too_long game.Solo text over = puzzle_too_long game.Solo _ text over
too_long game.LightUp text over = puzzle_too_long game.LightUp _ text over
too_long game.Tents text over = puzzle_too_long game.Tents _ text over

-- a search has one answer
pub solving : (g : Game) (budget : ℕ) (id : Text) → HasOneAnswer (AllowsSolve (game_of g) id budget)
solving g budget id =
    let play = game_of g in
    id_once (laws_of g).reading id (λ p s. solved_once play p ((laws_of g).searched id p s))

-- so each text has an answer
pub answers : (g : Game) (budget : ℕ) → HasAnswers (λ id. AllowsSolve (game_of g) id budget)
answers g budget text = let one = solving g budget text in (one.answer, one.allowed)

-- A grade names a search by the trials of the whole walk, which are the least budget with which the verdict is one.

-- the third byte of a text: of all grades only a search has an 'a' there
third : Text → ℕ
third text = slice_index text 2

searching : (grade : Grade) (lines rest : Text) → grade_text grade ++ codes "\n" ++ lines ≡ codes "search " ++ rest → (trials : ℕ) × (grade ≡ BySearch trials)
unfolding third
searching (BySearch trials) lines rest e = (trials, refl)
searching (ByRules Singles) lines rest e = absurd (omega (arith, ap third e))
searching (ByRules Houses) lines rest e = absurd (omega (arith, ap third e))
searching (ByRules Crossings) lines rest e = absurd (omega (arith, ap third e))
searching (ByRules Lines) lines rest e = absurd (omega (arith, ap third e))
searching (ByRules Local) lines rest e = absurd (omega (arith, ap third e))
searching grade lines rest e = absurd (omega (arith, ap third e))

no_refusal : (cause rest : Text) → (refused cause).text ≡ codes "search " ++ rest → ⊥
unfolding third
no_refusal cause rest e = absurd (omega (arith, ap third e))

counted : Grade → ℕ
counted (BySearch trials) = trials
counted grade = 0

-- a grade by a verdict that names a search is by one grid
by_one : (trials : ℕ) (o : Outcome) (n : ℕ) → grade_by trials o ≡ BySearch n → (g : List ℕ) × (o ≡ OneSolution g) × (trials ≡ n)
unfolding counted
by_one trials (OneSolution g) n e = (g, refl, ap counted e)
by_one trials NoSolution n e = absurd cc
by_one trials (SeveralSolutions g h) n e = absurd cc
by_one trials (GaveUp found) n e = absurd cc

-- one grid is told only where the budget is enough for all trials
room_for : (marks : List Mark) (budget : ℕ) (found : Option (List ℕ)) (g : List ℕ) → outcome budget found marks ≡ OneSolution g → trials_in marks ≤ budget
room_for marks budget found g e = omega (arith, spent_whole budget found marks g e, spent-le budget found marks)

trials_of : RuleSystem → ℕ
trials_of rules = trials_in (walk rules 0 rules.start)

module _ (game : Game) (id : Text) (p : puzzle_type game) (s : (game_of game).game.spells id p) where
  abbrev rules : RuleSystem
  rules = (game_of game).game.rules p

  -- an answer of status 0 tells the verdict one
  tells_one : (budget : ℕ) (said : Answer) → AllowsSolve (game_of game) id budget said
      → said.status ≡ 0 → (g : List ℕ) × (verdict_of rules budget ≡ OneSolution g)
  tells_one budget said allowed fine =
      let mine = answer_to (laws_of game).reading (IsSolved (game_of game) budget) id p s allowed in
      status_one (verdict_of rules budget) (sym (told_status (printed_by (game_of game) p) (verdict_of rules budget)) ∙ sym (ap (λ (a : Answer). a.status) mine.said) ∙ fine)

  one_is : (budget : ℕ) (g : List ℕ) → verdict_of rules budget ≡ OneSolution g → HasOneSolution ((game_of game).game.solves p)
  one_is budget g e =
      let right = subst (IsRight ((game_of game).game.solves p)) e (verdict_right ((laws_of game).searched id p s) budget) in
      (g, right.0, right.1)

  -- with a budget for all trials each answer tells the one solution
  tells_fine : HasOneSolution ((game_of game).game.solves p) → (budget : ℕ) → trials_of rules ≤ budget → (said : Answer)
      → AllowsSolve (game_of game) id budget said → said.status ≡ 0
  unfolding trials_of
  tells_fine one budget room said allowed = ap (λ a. a.status)
      ((found_alone (game_of game) (laws_of game).reading id p budget one.0 said s
      (found_with_enough ((laws_of game).searched id p s) one room) (one.1, λ h other. sym (one.2 h other))).0 allowed)

  -- and with a smaller one none does
  tells_less : (budget : ℕ) → budget < trials_of rules → (said : Answer) → AllowsSolve (game_of game) id budget said → said.status ≢ 0
  unfolding trials_of
  tells_less budget less said allowed fine =
      let one = tells_one budget said allowed fine in
      let room = room_for _ budget None one.0 one.1 in
      absurd (omega (arith, less, room))

  least_is : HasOneSolution ((game_of game).game.solves p) → IsLeastBudget game id (trials_of rules)
  least_is one = record { enough = tells_fine one _ (omega arith); least = tells_less }

  -- where there is a least budget, it is that of all trials
  only_least : (n : ℕ) → IsLeastBudget game id n → HasOneSolution ((game_of game).game.solves p) × (trials_of rules ≡ n)
  unfolding trials_of
  only_least n least =
      let has = solving game n id in
      let found = tells_one n has.answer has.allowed (least.enough has.answer has.allowed) in
      let one = one_is n found.0 found.1 in
      let room = room_for (walk rules 0 rules.start) n None found.0 found.1 in (
        one,
        elim (eq-or-lt_of_le room) [
          | inl same ↦ same
          | inr less ↦ absurd (let at = solving game (trials_of rules) id in
              least.least (trials_of rules) less at.answer at.allowed (tells_fine one (trials_of rules) (omega arith) at.answer at.allowed))
        ],
      )

  module _ (budget : ℕ) (traced : Bool) (name : ℕ → Text) (tried : RuleSystem) (graded : Answer)
      (told : SaysGrade (listed_grade ((game_of game).game.sets p) rules budget) traced name tried graded) where
    abbrev grade : Grade
    grade = listed_grade ((game_of game).game.sets p) rules budget

    text_of : {given : Grade} → grade ≡ given → graded.text ≡ grade_text given ++ codes "\n" ++ told.lines
    text_of is = grind (arith, common_steps)

    names : (trials : ℕ) → grade ≡ BySearch trials → NamesSearch trials graded
    names trials is = (told.lines, text_of is)

    pub searched_told : (rest : Text) → graded.text ≡ codes "search " ++ rest
        → (trials : ℕ) × NamesSearch trials graded × IsLeastBudget game id trials × (trials ≤ budget)
    unfolding searched_grade trials_of
    searched_told rest e = by (searching grade told.lines rest (sym told.text ∙ e))
      where
        by : (trials : ℕ) × (grade ≡ BySearch trials) → (trials : ℕ) × NamesSearch trials graded × IsLeastBudget game id trials × (trials ≤ budget)
        by (trials, is) = elim (named_or_searched ((game_of game).game.sets p) (searched_grade rules budget)) [
          | inl named ↦ absurd (let bad = sym named.1 ∙ is in cc)
          | inr same ↦
              let one = by_one _ _ trials (sym same ∙ is) in
              let room = room_for _ budget None one.0 one.1 in (
                trials,
                names trials is,
                subst (IsLeastBudget game id) one.2 (least_is (one_is budget one.0 one.1)),
                subst (λ n. n ≤ budget) one.2 room,
              )
        ]

    pub least_told : (n : ℕ) → IsLeastBudget game id n → n ≤ budget → NamesSet graded ⊎ NamesSearch n graded
    unfolding searched_grade trials_of
    least_told n least room = elim (named_or_searched ((game_of game).game.sets p) (searched_grade rules budget)) [
      | inl named ↦ inl (named.0, (told.lines, text_of named.1))
      | inr same ↦
          let one = only_least n least in
          let found = found_with_enough ((laws_of game).searched id p s) one.0 (subst (λ k. k ≤ budget) (sym one.1) room) in
          inr (names n (same ∙ ap (grade_by (trials_of rules)) found ∙ ap BySearch one.1))
    ]

pub least_budgets : SearchesNameLeastBudgets
least_budgets game id budget traced graded (inl x) = record {
  said = λ b. absurd (no_refusal _ b.0 (sym (ap (λ a. a.text) x.said) ∙ b.1));
  only = λ n least room. absurd (omega (arith, least.enough graded (inl x), ap (λ a. a.status) x.said));
}
least_budgets game id budget traced graded (inr x) = record {
  said = λ b. searched_told game id x.puzzle x.spelled budget traced _ _ graded x.allowed.said b.0 b.1;
  only = least_told game id x.puzzle x.spelled budget traced _ _ graded x.allowed.said;
}
