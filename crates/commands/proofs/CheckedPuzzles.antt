-- What the checks of grids rest on, for a puzzle of each game: an input has one answer of `check`, and the printed form of
-- a solution is told to be correct.
use Rattle.commands.proofs.Common.{AllByRecursion, AllowsGrid, Answer, Black, Bool, Extent, IsAsShown, IsGrid, IsInputOf, IsLight, IsLightSolution, IsPattern, IsSolo, IsTentSolution, IsTents, Light, LightCell, List, None, Numbered, Option, Pattern, PuzzleFacts, SaysFault, Solo, Some, Tents, Text, White, [], ap, arith, cases_eq, cases_lt, checked, codes, common_steps, eq-eqb, false, game_of, get_or, get_or_past, hides_nothing, inl, inr, is_shown, is_white, length, light_fault, light_hides, number_fits, option_map, pattern_cell, pattern_fault, printed_by, refl, refused, slice_get, slice_index, solo_cell, solo_extent, solo_fault, subst, suc, sym, tent_fault, tent_hides, text_limit, true, true≢false, white, without_returns, zero, ℕ, ◌*◌, ◌++◌, ◌+◌, ◌<◌, ◌↔◌, ◌∙◌, ◌∷◌, ◌≡◌, ◌≢◌, ◌⊎◌}
use Rattle.std.specs.Bool.{Decides}
use Rattle.std.specs.Cmp.Lexicographic.{bytes_decides}
use Rattle.std.specs.Str.{bytes_eq}
use Rattle.gameid_core.specs.declared.id.game.Game.TheVariants as game
use Rattle.gameid_core.proofs.FirstFailed.{IsKnown, answer_once, one_answer}
use Rattle.gameid_core.specs.FirstFailed.{IsAnswerOfCheck, NoneFails}
use Rattle.fields_core.proofs.LightRuleLemmas as light
use Rattle.fields_core.proofs.TentRuleLemmas as tents
use Rattle.fields_core.specs.LightFaults.{FailsLight, light_tests}
use Rattle.fields_core.specs.TentSolutions.{FailsTents, tent_tests}
use Rattle.pattern_core.specs.Solutions.{FailsPattern, pattern_tests}
use Rattle.solo_core.specs.Faults.{FailsSolo, given_tests, house_tests}
use Rattle.pattern_core.proofs.FaultLemmas.{pattern_known, pattern_none, pattern_sound}
use Rattle.solo_core.proofs.RepeatLemmas.{solo_known, solo_none, solo_sound}
use Rattle.commands.proofs.Readings.{AreSameAnswers, IsCellText, ReadsCells, grid_is_text, grid_read, light_cell_text, light_in, light_reads, pattern_cell_text, pattern_reads, plain_kept, printed_read, solo_cell_text, solo_in, solo_reads, symbol_in, tents_cell_text, tents_in, tents_reads}

-- a fact is so, or it is not
abbrev pub Decided : Type 0 → Type 0
Decided A = A ⊎ (A → ⊥)

decided_as : {A B : Type 0} → (A → B) → (B → A) → Decided A → Decided B
decided_as to from (inl a) = inl (to a)
decided_as to from (inr never) = inr (λ b. never (from b))

decided_both : {A B : Type 0} → Decided A → Decided B → Decided (A × B)
decided_both (inl a) (inl b) = inl (a, b)
decided_both (inr never) b = inr (λ h. never h.0)
decided_both a (inr never) = inr (λ h. never h.1)

decided_either : {A B : Type 0} → Decided A → Decided B → Decided (A ⊎ B)
decided_either (inl a) b = inl (inl a)
decided_either (inr never) b = decided_as inr (λ h. elim h [ inl a ↦ absurd (never a) | inr is ↦ is ]) b

decided_if : {A B : Type 0} → Decided A → Decided B → Decided (A → B)
decided_if (inr never) b = inl (λ a. absurd (never a))
decided_if (inl a) b = decided_as (λ is _. is) (λ follows. follows a) b

decided_by : {P : Type 0} (test : Bool) → Decides test P → Decided P
decided_by true d = inl (d.0 refl)
decided_by false d = inr (λ p. true≢false (sym (d.1 p)))

decided_text : {a b : List ℕ} → Decided (a ≡ b)
decided_text {a} {b} = decided_by (bytes_eq a b) (bytes_decides a b)

decided_less : (a b : ℕ) → Decided (a < b)
decided_less a b = grind (arith, common_steps, cases_lt)

decided_below : (n : ℕ) (P : ℕ → Type 0) → ((k : ℕ) → Decided (P k)) → Decided ((k : ℕ) → k < n → P k)
decided_below zero P each = inl (λ k lt. absurd (omega arith))
decided_below (suc n) P each = decided_as (λ both k lt. elim (cases_eq k n) [ inl is ↦ subst P (sym is) both.1 | inr other ↦ both.0 k (omega arith) ])
    (λ all. (λ k lt. all k (omega arith), all n (omega arith))) (decided_both (decided_below n P each) (each n))

-- what is told of the grids of a puzzle: each has one answer, and it is that nothing is wrong for solutions alone
pub record AreTold (is_grid solves : List ℕ → Type 0) (checks : List ℕ → Answer → Type 0) : Type 0 where
  pub some : (g : List ℕ) → is_grid g → (a : Answer) × checks g a
  pub alone : (g : List ℕ) (a b : Answer) → checks g a → checks g b → a ≡ b
  pub sound : (g : List ℕ) (a : Answer) → checks g a → a.status ≡ 0 → solves g
  pub right : (g : List ℕ) → solves g → checks g (checked None)

faults_told : {F : Type 0} {is_grid solves : List ℕ → Type 0} (rule_text : F → Text) (fails : List ℕ → F → Type 0) (tests : List F)
    → ((g : List ℕ) → is_grid g → NoneFails (fails g) tests → solves g)
    → ((g : List ℕ) → is_grid g → AllByRecursion (IsKnown (fails g)) tests)
    → ((g : List ℕ) → solves g → NoneFails (fails g) tests)
    → AreTold is_grid solves (λ g. SaysFault (IsAnswerOfCheck (solves g) (fails g) tests) rule_text)
faults_told {F} rule_text fails tests sound known complete = record {
  some = λ g grid. let fault = one_answer (fails g) tests (sound g grid) (known g grid) in
      (checked (option_map rule_text fault.0), record { fault = fault.0; first = fault.1; said = refl });
  alone = λ g a b x y. x.said ∙ ap (λ (f : Option F). checked (option_map rule_text f))
      (answer_once (fails g) tests (complete g) x.fault y.fault x.first y.first) ∙ sym y.said;
  sound = λ g a x fine. subst (IsAnswerOfCheck _ (fails g) tests) (no_fault x.fault (sym (ap (λ (c : Answer). c.status) x.said) ∙ fine)) x.first;
  right = λ g solution. record { fault = None; first = solution; said = refl };
}
  where
    no_fault : (fault : Option F) → (checked (option_map rule_text fault)).status ≡ 0 → fault ≡ None
    no_fault None e = refl
    no_fault (Some f) e = absurd (omega (arith, e))

pub record CheckedPuzzle {P : Type 0} (play : PuzzleFacts P) (p : P) : Type 0 where
  -- a printed grid tells its numbers, and may be read
  pub reads : ℕ → Text → ℕ × ℕ
  pub known : ReadsCells (play.hides p) (play.value_count p) (play.extent p) (play.cell_text p) reads
  pub text : (g : List ℕ) → IsAsShown (play.hides p) (play.value_count p) (play.extent p) g → IsCellText text_limit (printed_by play p g)
  pub decides : (place : ℕ) → Decided (play.hides p place)
  pub told : AreTold (IsGrid ((play.extent p).w * (play.extent p).h) (play.value_count p)) (play.game.solves p) (play.game.checks p)
  -- a solution is shown by its printed form
  pub shown : (g : List ℕ) → play.game.solves p g → IsAsShown (play.hides p) (play.value_count p) (play.extent p) g

shows_all : {values : ℕ} {size : Extent} {g : List ℕ} → IsGrid (size.w * size.h) values g → IsAsShown hides_nothing values size g
shows_all grid = grind (arith, common_steps)

-- a number below 2 that isn't 1
none_at : (v : ℕ) → v < 2 → (v ≡ 1 → ⊥) → v ≡ 0
none_at v small never = omega (arith, never)

-- in a grid of 0 and 1 a cell holds 0 where it can't hold 1
hidden_zero : {cells : ℕ} {g : List ℕ} (place : ℕ) → IsGrid cells 2 g → (place < cells → slice_index g place ≡ 1 → ⊥) → slice_index g place ≡ 0
hidden_zero place grid not_so = grind (arith, common_steps, cases_lt, get_or_past, none_at)

pub pattern_checked : (p : Pattern) → IsPattern p → CheckedPuzzle (game_of game.Pattern) p
pattern_checked p ok = record {
  reads = λ place. symbol_in 35;
  known = pattern_reads p;
  text = λ g shown. grid_is_text (pattern_cell p g) p.size 1 (λ place lt. pattern_cell_text p g place) ok.size.w_high ok.size.h_high (omega arith);
  decides = λ place. inr (λ none. none);
  told = faults_told pattern_fault (FailsPattern p) (pattern_tests p) (pattern_sound p) (λ g grid. pattern_known p g) (pattern_none p);
  shown = λ g s. shows_all s.grid;
}

pub solo_checked : (p : Solo) → IsSolo p → CheckedPuzzle (game_of game.Solo) p
solo_checked p ok = record {
  reads = solo_in p;
  known = solo_reads p ok;
  text = λ g shown. grid_is_text (solo_cell p g) (solo_extent p) 3 (λ place lt. solo_cell_text p ok g shown lt) ok.n_high ok.n_high (omega arith);
  decides = λ place. inr (λ none. none);
  told = faults_told (solo_fault p) (FailsSolo p) (given_tests p ++ house_tests p) (solo_sound p ok) (λ g grid. solo_known p ok g) (solo_none p ok);
  shown = λ g s. shows_all s.grid;
}

-- a white cell, as it stands in the puzzle
white_at : (cells : List LightCell) (place : ℕ) → is_white (get_or cells place Black) ≡ true → slice_get cells place ≡ Some White
white_at [] place on = absurd (true≢false (sym on))
white_at (White ∷ cells) zero on = refl
white_at (Black ∷ cells) zero on = absurd (true≢false (sym on))
white_at (Numbered n ∷ cells) zero on = absurd (true≢false (sym on))
white_at (x ∷ cells) (suc place) on = white_at cells place on

light_hidden : (p : Light) (g : List ℕ) → IsLightSolution p g → (place : ℕ) → light_hides p place → slice_index g place ≡ 0
unfolding white
light_hidden p g s place hides = grind (arith, common_steps, hidden_zero, white_at, eq-eqb)

light_decides : (o : Option LightCell) → Decided (o ≢ Some White)
light_decides (Some White) = inr (λ never. never refl)
light_decides o = inl (λ e. cc)

pub light_checked : (p : Light) → IsLight p → CheckedPuzzle (game_of game.LightUp) p
light_checked p ok = record {
  reads = λ place. light_in _;
  known = light_reads p ok;
  text = λ g shown. grid_is_text _ p.size 1 (λ place lt. light_cell_text p ok g place) ok.size.extent.w_high ok.size.extent.h_high (omega arith);
  decides = λ place. light_decides _;
  told = faults_told (light_fault p) (FailsLight p) (light_tests p) (light.light-sound p) (light.light-known p) (λ g s. light.light-none p g s.grid s);
  shown = λ g s. record { grid = s.grid; hidden = light_hidden p g s };
}

tent_hidden : (p : Tents) (g : List ℕ) → IsTentSolution p g → (place : ℕ) → tent_hides p place → slice_index g place ≡ 0
tent_hidden p g s place hides = grind (arith, common_steps, hidden_zero, eq-eqb)

pub tents_checked : (p : Tents) → IsTents p → CheckedPuzzle (game_of game.Tents) p
tents_checked p ok = record {
  reads = tents_in p;
  known = tents_reads p;
  text = λ g shown. grid_is_text _ p.size 1 (λ place lt. tents_cell_text p g place) ok.size.extent.w_high ok.size.extent.h_high (omega arith);
  decides = λ place. cases_eq _ 1;
  told = faults_told (tent_fault p) (FailsTents p) (tent_tests p) (tents.tents-sound p) (tents.tents-known p) (λ g s. tents.tents-none p g s.grid s);
  shown = λ g s. record { grid = s.grid; hidden = tent_hidden p g s };
}

module _ {P : Type 0} (play : PuzzleFacts P) (p : P) (game : CheckedPuzzle play p) where
  abbrev printed : List ℕ → Text
  printed g = printed_by play p g

  abbrev Shown : List ℕ → Type 0
  Shown = IsAsShown (play.hides p) (play.value_count p) (play.extent p)

  -- ---- an input is the printed form of one grid or of none, which is decided by the one that is read of it
  candidate : Text → List ℕ
  candidate input = grid_read game.reads (play.extent p) (without_returns input)

  candidate_is : {input : Text} {g : List ℕ} → IsInputOf play p input g → candidate input ≡ g
  unfolding candidate
  candidate_is {input} given = printed_read (play.cell_text p) game.reads game.known given.shown _ given.printed

  shown_decided : (g : List ℕ) → Decided (Shown g)
  shown_decided g =
      let cells = (play.extent p).w * (play.extent p).h in
      decided_as (λ both. is_shown (play.extent p).h (omega arith) (omega arith) both.0 (λ place lt. both.1 place (omega arith)))
      (λ shown. (
        shown.grid.each_cell,
        λ place lt. (number_fits (play.hides p) (play.value_count p) (play.extent p) g place shown lt, shown.hidden place),
      ))
      (decided_both (cases_eq (length g) cells) (decided_below cells _ (λ place.
      decided_both (decided_less _ (play.value_count p)) (decided_if (game.decides place) (cases_eq _ 0)))))

  input_decided : (input : Text) (g : List ℕ) → Decided (IsInputOf play p input g)
  input_decided input g = decided_as (λ given. record { small = omega (arith, given.0); shown = given.1.0; printed = given.1.1 })
      (λ given. (omega (arith, given.small), (given.shown, given.printed)))
      (decided_both (decided_less (length input) (text_limit + 1)) (decided_both (shown_decided g) (decided_either decided_text decided_text)))

  pub check_some : (input : Text) → (a : Answer) × AllowsGrid play p input a
  check_some input = elim (input_decided input _) [
    | inl given ↦
        let said = game.told.some (candidate input) given.shown.grid in
        (said.0, inl (record { grid = candidate input; given = given; only = λ other. candidate_is; said = said.1 }))
    | inr never ↦ (
      refused (codes "grid"),
      inr (record { none = λ g given. never (subst (IsInputOf play p input) (sym (candidate_is given)) given); said = refl }),
    )
  ]

  -- ---- and no other
  pub check_same : (input : Text) → AreSameAnswers (AllowsGrid play p input)
  check_same input a b (inl x) (inl y) = game.told.alone y.grid a b (subst (λ g. play.game.checks p g a) (x.only y.grid y.given) x.said) y.said
  check_same input a b (inl x) (inr y) = absurd (y.none x.grid x.given)
  check_same input a b (inr x) (inl y) = absurd (x.none y.grid y.given)
  check_same input a b (inr x) (inr y) = x.said ∙ sym y.said

  -- ---- a solution's printed form is correct, and nothing else is said of it
  pub correct_grid : (g : List ℕ) → play.game.solves p g → (said : Answer) → AllowsGrid play p (printed g) said ↔ (said ≡ checked None)
  correct_grid g solution said = (
    λ allowed. check_same (printed g) said (checked None) allowed correct,
    λ same. subst (AllowsGrid play p (printed g)) (sym same) correct,
  )
    where
      shown : Shown g
      shown = game.shown g solution

      given : IsInputOf play p (printed g) g
      given = grind (arith, common_steps, plain_kept)

      correct : AllowsGrid play p (printed g) (checked None)
      correct = inl (record { grid = g; given = given; only = λ other also. sym (candidate_is given) ∙ candidate_is also; said = game.told.right g solution })

  -- different grids are printed differently
  pub printed_apart : {g h : List ℕ} → play.game.solves p g → play.game.solves p h → (g ≢ h) → printed g ≢ printed h
  printed_apart {g} {h} a b other same = other (sym (printed_read (play.cell_text p) game.reads game.known (game.shown g a) (printed h) (inl (sym same)))
      ∙ printed_read (play.cell_text p) game.reads game.known (game.shown h b) (printed h) (inl refl))
