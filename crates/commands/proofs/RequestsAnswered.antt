-- Closings that every lawful rule set has, and the answer that each request has on each input.
use Rattle.commands.proofs.Common.{Allows, AllowsCheck, AllowsGrade, AllowsSolve, Answer, Asked, Bool, Candidates, Game, IsLawful, IsTrace, IsWithin, List, NamedRules, None, Option, RuleSystem, SaysClosing, Some, Text, [], add-one, after_inside, any_below, any_below-none, any_below-some, arith, cases_Bool, check, codes, cond_both, false, game_of, generate, grade, grade_status, grade_text, inl, inr, is_dead, is_settled, last_tried, length, length-append, lines, listed_grade, refl, refused_words, solve, suc, sweeps_text, total, true, true≢false, visits_text, wanted, within_inside, zero, ℕ, ◌++◌, ◌+◌, ◌<◌, ◌∷◌, ◌≡◌, ◌≤◌}
use Rattle.engine_core.specs.RuleSystem.{after}
use Rattle.engine_core.specs.ClosingList.{IsClosingList, IsClosingSweeps}
use Rattle.engine_core.specs.Queue.{IsRested, IsWoken, but, counts_of, woken}
use Rattle.engine_core.proofs.ListLemmas.{IsRunning, closing-dead, closing-none, closing-open, running-first, running-turn}
use Rattle.engine_core.proofs.QueueLemmas.{closed_from_rested, visits_left-pos}
use Rattle.engine_core.proofs.SweepLemmas.{IsSweeping, IsSwept, fewer, sweeping-first, sweeping-turn, swept-dead, swept-first, swept-shut, swept-turn, woken-marked}
use Rattle.commands.proofs.BatchLemmas.{each_has}
use Rattle.commands.proofs.CheckedPuzzles.{check_some}
use Rattle.commands.proofs.GameLaws.{EachSearched, answers, laws_of, listed_right}
use Rattle.commands.proofs.SearchedPuzzles.{seed_words}
use Rattle.commands.proofs.Makings.{made_some}
use Rattle.commands.proofs.Readings.{id_some}

-- A lawful rule set has visits that close each of its boards, or sweeps that do: those that its closing would make.

-- after a visit all wait that it wakes
abbrev wakes : RuleSystem → ℕ → Candidates → (ℕ → Bool) → ℕ → Bool
wakes p h K waits = woken p h (counts_of p h K) (after p h K) (but waits h)

woken_is : {p : RuleSystem} {h : ℕ} {K : Candidates} {waits : ℕ → Bool} → IsWoken p h K (after p h K) waits (wakes p h K waits)
woken_is = record { marks = λ j lt. refl }

all_rested : (p : RuleSystem) (K : Candidates) → IsRested p K (λ h. true)
all_rested p K = λ h c v lt off on. absurd (true≢false off)

visited_within : (p : RuleSystem) (h : ℕ) {K : Candidates} → IsWithin p.cells p.values K → IsWithin p.cells p.values (after p h K)
visited_within p h {K} within = within_inside p.cells p.values (after p h K) K within (after_inside p h K)

-- ---- sweeps
-- the board before the house n of a sweep, and which houses wait
record Sweeping (p : RuleSystem) (K : Candidates) (n : ℕ) : Type 0 where
  board : Candidates
  waits : ℕ → Bool
  sweeping : IsSweeping p K n board waits
  within : IsWithin p.cells p.values board

module _ {p : RuleSystem} (laws : IsLawful p) where
  swept : (K : Candidates) → IsWithin p.cells p.values K → (n : ℕ) → n ≤ p.houses → Sweeping p K n
  swept K within zero le = record { board = K; waits = λ h. true; sweeping = sweeping-first p K (λ h. true) (all_rested p K); within = within }
  swept K within (suc n) le =
      let s = swept K within n (omega arith) in
      let marked = woken-marked p laws n s.board (omega arith) s.within refl woken_is in
      let turn = sweeping-turn p K n s.board (after p n s.board) s.waits _ s.sweeping (omega arith) refl marked in
      record { board = _; waits = _; sweeping = rw add-one at turn; within = visited_within p n s.within }

  module _ {K0 : Candidates} (by_sweeps : p.by_queue ≡ false) (start : IsWithin p.cells p.values K0) where
    -- one sweep more closes the board, or leaves fewer values
    one_sweep : (n : ℕ) (K : Candidates) → IsWithin p.cells p.values K → IsSwept p K0 n K
        → ((L : Candidates) → total p.cells p.values L < total p.cells p.values K → IsWithin p.cells p.values L → IsSwept p K0 (n + 1) L
        → (sweeps : ℕ) × IsClosingSweeps p K0 sweeps)
        → (sweeps : ℕ) × IsClosingSweeps p K0 sweeps
    one_sweep n K within done again =
        let s : Sweeping p K p.houses = swept K within p.houses (omega arith) in
        let w = s.sweeping in
        elim (cases_Bool (is_dead p.cells p.values s.board)) [
          | inl dies ↦ (n + 1, ((swept-dead p laws K0 n K by_sweeps start done (rw w.left at dies)).by_sweeps by_sweeps).1)
          | inr lives ↦
              elim (cases_Bool (any_below s.waits p.houses)) [
                | inl some ↦
                    let h = any_below-some s.waits p.houses some in
                    let lost = w.struck h.0 h.1 h.2 in
                    again s.board (fewer p K s.board within w.left lost) s.within (swept-turn p K0 n K s.board done within w.left lost lives)
                | inr none ↦ (
                  n + 1,
                  ((swept-shut p laws n K s.board by_sweeps start done w.left lives
                      (closed_from_rested p s.board s.waits (any_below-none s.waits p.houses none) w.rested)).by_sweeps by_sweeps).1,
                )
              ]
        ]

    sweeps_from : (fuel n : ℕ) (K : Candidates) → total p.cells p.values K ≤ fuel → IsWithin p.cells p.values K → IsSwept p K0 n K
        → (sweeps : ℕ) × IsClosingSweeps p K0 sweeps
    sweeps_from zero n K few within done = one_sweep n K within done (λ L less a b. absurd (omega arith))
    sweeps_from (suc fuel) n K few within done = one_sweep n K within done (λ L less a b. sweeps_from fuel (n + 1) L (omega arith) a b)

    pub sweeps_close : (sweeps : ℕ) × IsClosingSweeps p K0 sweeps
    sweeps_close = elim (cases_Bool _) [
      | inl dead ↦ (0, ((closing-none p laws K0 start dead).by_sweeps by_sweeps).1)
      | inr alive ↦ sweeps_from (total p.cells p.values K0) 0 K0 (omega arith) start (swept-first p K0 alive)
    ]

  -- ---- a queue
  module _ {K0 : Candidates} (by_queue : p.by_queue ≡ true) (start : IsWithin p.cells p.values K0) where
    -- no house waits, or one visit more leaves a dead board, or there is room for more
    one_visit : (t : List ℕ) (K : Candidates) {waits : ℕ → Bool} → IsWithin p.cells p.values K → IsRunning p K0 t K waits
        → ((h : ℕ) (L : Candidates) (left : ℕ → Bool) → length t < p.bound → IsWithin p.cells p.values L → IsRunning p K0 (t ++ h ∷ []) L left
        → (visits : List ℕ) × IsClosingList p K0 visits)
        → (visits : List ℕ) × IsClosingList p K0 visits
    one_visit t K {waits} within r again = elim (cases_Bool _) [
      | inr none ↦ (t, ((closing-open p laws K0 t K waits by_queue start r (any_below-none waits p.houses none)).by_visits by_queue).1)
      | inl some ↦
          let w = any_below-some waits p.houses some in
          elim (cases_Bool (is_dead p.cells p.values (after p w.0 K))) [
            | inl dead ↦ (t ++ w.0 ∷ [], ((closing-dead p laws K0 t K (after p w.0 K) waits w.0 by_queue start r w.1 w.2 refl dead).by_visits by_queue).1)
            | inr alive ↦ again w.0 (after p w.0 K) _
                (omega (arith, visits_left-pos p K waits w.0 w.1 w.2, r.enough))
                (visited_within p w.0 within)
                (running-turn p laws K0 t K (after p w.0 K) waits (wakes p w.0 K waits) w.0 r w.1 w.2 within refl woken_is alive)
          ]
    ]

    visits_from : (fuel : ℕ) {t : List ℕ} (K : Candidates) {waits : ℕ → Bool}
        → p.bound ≤ length t + fuel → IsWithin p.cells p.values K → IsRunning p K0 t K waits
        → (visits : List ℕ) × IsClosingList p K0 visits
    visits_from zero {t} K room within r = one_visit t K within r (λ h L left less a b. absurd (omega arith))
    visits_from (suc fuel) {t} K room within r = one_visit t K within r
        (λ h L left less a b. visits_from fuel L (omega (arith, length-append t (h ∷ []))) a b)

    pub visits_close : (visits : List ℕ) × IsClosingList p K0 visits
    visits_close = elim (cases_Bool _) [
      | inl dead ↦ ([], ((closing-none p laws K0 start dead).by_visits by_queue).1)
      | inr alive ↦ visits_from p.bound K0 (omega arith) start (running-first p laws K0 (λ h. true) by_queue alive (all_rested p K0))
    ]

-- Each request has an answer on each input.

-- ---- traces
closing_said : (name : ℕ → Text) {rules : RuleSystem} → IsLawful rules → (lines : Text) × SaysClosing rules.by_queue name rules lines
closing_said name {rules} laws = by rules.by_queue refl
  where
    by : (queue : Bool) → rules.by_queue ≡ queue → (lines : Text) × SaysClosing queue name rules lines
    by true is =
        let closing = visits_close laws is laws.start_within in
        (visits_text name closing.0, record { visits = closing.0; closing = closing.1; said = refl })
    by false is =
        let closing = sweeps_close laws is laws.start_within in
        (sweeps_text closing.0, record { sweeps = closing.0; closing = closing.1; said = refl })

-- the rules that were tried last are lawful
last_lawful : (solves : List ℕ → Type 0) {before : RuleSystem} (sets : List NamedRules)
    → IsLawful before → EachSearched solves sets → IsLawful (last_tried before sets)
last_lawful solves [] laws each = laws
last_lawful solves (first ∷ rest) laws each =
    cond_both (is_settled first.rules) _ _ IsLawful (λ _. each.0.lawful) (λ _. last_lawful solves rest each.0.lawful each.1)

trace_some : (traced : Bool) (name : ℕ → Text) (rules : RuleSystem) → (lines : Text) × SaysClosing rules.by_queue name rules lines
    → (lines : Text) × IsTrace traced name rules lines
trace_some true name rules some = some
trace_some false name rules some = ([], refl)

-- ---- the commands
pub graded : (g : Game) (id : Text) (budget : ℕ) (trace : Bool) → (a : Answer) × AllowsGrade (game_of g) id budget trace a
graded g id budget trace =
    let of = (game_of g).game in
    id_some (laws_of g).reading id _ (λ p s.
    let given = listed_grade (of.sets p) (of.rules p) budget in
    let tried = last_tried (of.rules p) (of.sets p) in
    let searched = (laws_of g).searched id p s in
    let listed = (laws_of g).listed id p s in
    let lines = trace_some trace (of.visit_name p) tried (closing_said (of.visit_name p) (last_lawful (of.solves p) (of.sets p) searched.lawful listed)) in (
      record { text = grade_text given ++ codes "\n" ++ lines.0; status = grade_status given },
      record {
        right = listed_right (of.sets p) budget listed searched;
        said = record { lines = lines.0; trace = lines.1; text = refl; status = refl };
      },
    ))

pub checked : (g : Game) (id input : Text) → (a : Answer) × AllowsCheck (game_of g) id input a
checked g id input = id_some (laws_of g).reading id _ (λ p s. check_some (game_of g) p ((laws_of g).checked id p s) input)

pub answered : (asked : Option Asked) (input : Text) → (a : Answer) × Allows asked input a
answered None input = (refused_words, refl)
answered (Some (solve g (Some id) budget)) input = answers g budget id
answered (Some (solve g None budget)) input = each_has (λ id. AllowsSolve (game_of g) id budget) (answers g budget) (lines input)
answered (Some (check g id)) input = checked g id input
answered (Some (grade g id budget trace)) input = graded g id budget trace
answered (Some (generate g size seed budget tries black)) input = made_some (wanted seed budget tries black) (seed_words seed) g size
