-- What searches rest on and find, for a puzzle of each game.
use Rattle.commands.proofs.Common.{Bool, HasOne, HasOneAnswer, HasOneSolution, HasWords, IsFirstPassing, IsLawful, IsLight, IsLightSolution, IsPattern, IsPatternSolution, IsRight, IsSolo, IsSoloSolution, IsSolved, IsTentSolution, IsTents, IsTrueOf, Light, List, Making, Mark, Mark.Found, Mark.Trial, None, NonePasses, Option, Outcome, Outcome.GaveUp, Outcome.NoSolution, Outcome.OneSolution, Outcome.SeveralSolutions, Pattern, PuzzleFacts, RuleSystem, Solo, Solves, Some, Stream, Tents, [], arith, cases_Bool, cases_eq, cases_lt, common_steps, crossings_rules, false, filling_at, houses_lawful, houses_rules, inl, inr, is_one, is_solution-from, is_solution-is, light_rules, line_rules, line_rules-lawful, outcome, outcome-true, printed_by, refl, rule_from_test, solo_rules_of, singles_rules, subst, suc, sym, tent_rules, test_from_rule, trials_in, true, true≢false, verdict_answer, verdict_of, walk, zero, ℕ, ◌<◌, ◌^◌, ◌↔◌, ◌∷◌, ◌≡◌, ◌≤◌, ◌⊎◌}
use Rattle.std.proofs.lemmas.Nat.{mod_below}
use Rattle.rand_core.specs.Steps.{stream_of}
use Rattle.rand_chacha.specs.Block.{block_word}
use Rattle.rand_chacha.specs.ChaCha.{ChaCha, next_word}
use Rattle.commands.specs.Makings.{seed_stream}
use Rattle.solo_core.specs.RuleLaws.{crossings_lawful, singles_lawful}
use Rattle.engine_core.specs.Counts.{IsClosedIn, IsTurns, boards_met, boards_of}
use Rattle.engine_core.specs.HouseRules.{House}
unfoldable use Rattle.engine_core.specs.Verdict.{tried}
use Rattle.fields_core.proofs.LightRuleLemmas.{light-lawful}
use Rattle.fields_core.proofs.LightRuleLemmas as light
use Rattle.fields_core.proofs.TentCounting.{tent-lawful}
use Rattle.fields_core.proofs.TentRuleLemmas as tents

-- The words of a seed, the first filling that passes, and what a search finds.

block_below : (n : ℕ) (key : List ℕ) (counter nonce k : ℕ) → block_word n key counter nonce k < 2 ^ 32
unfolding block_word
block_below n key counter nonce k = mod_below _ (2 ^ 32) (omega arith)

step_below : (n : ℕ) (g : ChaCha) → (next_word n g).0 < 2 ^ 32
step_below n g = block_below n g.key _ g.stream _

pub seed_words : (seed : ℕ) → HasWords (seed_stream seed)
unfolding stream_of
seed_words seed = grind (arith, common_steps, step_below)

-- ---- the first filling that passes
module _ {A : Type 0} (make : Making A) (passes : A → Bool) (s : Stream) where
  pub first_or_none : (tries : ℕ) → ((k : ℕ) × IsFirstPassing make passes s tries k) ⊎ NonePasses make passes s tries
  first_or_none zero = inr (record { failing = λ j lt. absurd (omega arith) })
  first_or_none (suc n) = elim (first_or_none n) [
    | inl first ↦ inl (first.0, record { within = omega arith; passing = first.1.passing; failing = first.1.failing })
    | inr none ↦ elim (cases_Bool (passes (filling_at make n s))) [
      | inl is ↦ inl (n, record { within = omega arith; passing = is; failing = none.failing })
      | inr is ↦ inr (record {
        failing = λ j lt. elim (cases_eq j n) [
          | inl e ↦ subst (λ i. passes (filling_at make i s) ≡ false) (sym e) is
          | inr ne ↦ none.failing j (omega arith)
        ];
      })
    ]
  ]

  pub first_once : {tries j k : ℕ} → IsFirstPassing make passes s tries j → IsFirstPassing make passes s tries k → j ≡ k
  first_once {tries} {j} {k} a b = grind (arith, common_steps, cases_lt)

-- ---- what a search finds
one_found : (o : Outcome) → is_one o ≡ true → (g : List ℕ) × (o ≡ OneSolution g)
one_found (OneSolution g) e = (g, refl)
one_found o e = absurd (true≢false (sym e))

pub has_one : (rules : RuleSystem) → IsLawful rules → (budget : ℕ) → is_one (verdict_of rules budget) ≡ true → HasOne rules budget
has_one rules laws budget one = grind (arith, common_steps, one_found, outcome-true)

-- What the searches rest on, for a puzzle of each game, and what follows for their verdicts.

-- what is true of the grids that the rules accept is right of the solutions, where these are the same
pub right_of : {p : RuleSystem} (solves : List ℕ → Type 0) (o : Outcome) → ((g : List ℕ) → Solves p g ↔ solves g) → IsTrueOf p o → IsRight solves o
right_of solves NoSolution same h = λ g s. h g ((same g).1 s)
right_of solves (OneSolution g) same h = ((same g).0 h.0, λ k s. h.1 k ((same k).1 s))
right_of solves (SeveralSolutions g k) same h = ((same g).0 h.0, (same k).0 h.1, h.2)
right_of solves (GaveUp None) same h = tt
right_of solves (GaveUp (Some g)) same h = (same g).0 h

-- the rules are lawful, and accept the solutions
pub record SearchedPuzzle (rules : RuleSystem) (solves : List ℕ → Type 0) : Type 0 where
  pub lawful : IsLawful rules
  pub accepted : (g : List ℕ) → Solves rules g ↔ solves g

-- ---- the grids that the rules accept are the solutions, in each game
pub pattern_accepted : (p : Pattern) (g : List ℕ) → Solves (line_rules p) g ↔ IsPatternSolution p g
pattern_accepted p g = grind (arith, common_steps, is_solution-is, is_solution-from)

-- by each rule set
pub solo_accepted : {p : Solo} → IsSolo p → (settled : Bool) (houses : List House) (g : List ℕ) → Solves (solo_rules_of settled p houses) g ↔ IsSoloSolution p g
solo_accepted {p} ok settled houses g = grind (arith, common_steps, rule_from_test, test_from_rule)

pub light_accepted : (p : Light) (g : List ℕ) → Solves (light_rules p) g ↔ IsLightSolution p g
light_accepted p g = (λ s. light.rule-from-test p g s.grid s.good, λ s. record { grid = s.grid; good = light.test-from-rule p g s.grid s })

pub tents_accepted : (p : Tents) (g : List ℕ) → Solves (tent_rules p) g ↔ IsTentSolution p g
tents_accepted p g = (λ s. tents.solution-from-tents p g s.grid s.good, λ s. record { grid = s.grid; good = tents.tents-from-solution p g s.grid s })

pub pattern_searched : (p : Pattern) → IsPattern p → SearchedPuzzle (line_rules p) (IsPatternSolution p)
pattern_searched p ok = record { lawful = line_rules-lawful p ok.size; accepted = pattern_accepted p }

pub solo_searched : {p : Solo} → IsSolo p → SearchedPuzzle (houses_rules p) (IsSoloSolution p)
solo_searched {p} ok = record { lawful = houses_lawful p ok; accepted = solo_accepted ok _ _ }

pub singles_searched : (p : Solo) → IsSolo p → SearchedPuzzle (singles_rules p) (IsSoloSolution p)
singles_searched p ok = record { lawful = singles_lawful p ok; accepted = solo_accepted ok _ _ }

pub crossings_searched : (p : Solo) → IsSolo p → SearchedPuzzle (crossings_rules p) (IsSoloSolution p)
crossings_searched p ok = record { lawful = crossings_lawful p ok; accepted = solo_accepted ok _ _ }

pub light_searched : {p : Light} → IsLight p → SearchedPuzzle (light_rules p) (IsLightSolution p)
light_searched {p} ok = record { lawful = light-lawful ok; accepted = light_accepted p }

pub tents_searched : {p : Tents} → IsTents p → SearchedPuzzle (tent_rules p) (IsTentSolution p)
tents_searched {p} ok = record { lawful = tent-lawful ok; accepted = tents_accepted p }

-- a search with a trial for each of the walk doesn't give up
never_out : (marks : List Mark) (budget : ℕ) (found sofar : Option (List ℕ)) → trials_in marks ≤ budget → outcome budget sofar marks ≡ GaveUp found → ⊥
unfolding outcome trials_in
never_out [] budget found None room e = cc
never_out [] budget found (Some g) room e = cc
never_out (Found h ∷ marks) budget found None room e = never_out marks budget found (Some h) room e
never_out (Found h ∷ marks) budget found (Some first) room e = cc
never_out (Trial depth board ∷ marks) zero found sofar room e = absurd (omega arith)
never_out (Trial depth board ∷ marks) (suc budget) found sofar room e = never_out marks budget found sofar (omega arith) e

module _ {rules : RuleSystem} {solves : List ℕ → Type 0} (searched : SearchedPuzzle rules solves) where
  pub verdict_right : (budget : ℕ) → IsRight solves (verdict_of rules budget)
  verdict_right budget = right_of solves _ searched.accepted (outcome-true rules searched.lawful budget)

  -- so where one grid is the solution, it is what a search with enough trials tells
  pub found_with_enough : (one : HasOneSolution solves) {budget : ℕ}
      → trials_in (walk rules 0 rules.start) ≤ budget → verdict_of rules budget ≡ OneSolution one.0
  found_with_enough one at_most = grind (arith, common_steps, never_out, verdict_right)

-- a search without a trial tries nothing
untried : (found : Option (List ℕ)) (marks : List Mark) → tried 0 found marks ≡ []
unfolding tried
untried found [] = refl
untried None (Found g ∷ marks) = untried (Some g) marks
untried (Some first) (Found g ∷ marks) = refl
untried found (Trial depth board ∷ marks) = refl

-- so its turns are those of one closing of the start board
pub closed_at_once : (p : RuleSystem) (turns : ℕ) → IsTurns p (boards_met p 0) turns → IsClosedIn p p.start turns
closed_at_once p turns made =
    let one : IsTurns p (p.start ∷ []) turns = subst (λ l. IsTurns p (p.start ∷ boards_of l) turns) (untried None (walk p 0 p.start)) made in
    subst (IsClosedIn p p.start) (omega (arith, one.3, one.4)) one.2

-- a search has one answer
pub solved_once : {P : Type 0} (play : PuzzleFacts P) (p : P) {budget : ℕ}
    → SearchedPuzzle (play.game.rules p) (play.game.solves p)
    → HasOneAnswer (IsSolved play budget p)
solved_once play p {budget} searched = record {
  answer = verdict_answer (printed_by play p) (verdict_of (play.game.rules p) budget);
  allowed = record { right = verdict_right searched budget; said = refl };
  only = λ other is. sym is.said;
}
