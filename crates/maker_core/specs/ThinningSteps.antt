-- What the steps of thinning leave.
use Rattle.std.specs.Prelude.{◌≡◌, ℕ, suc, true, Option, Some, None, List, [], ◌∷◌, length, get_or, eqb, Contains, ◌⊎◌}
use Rattle.maker_core.specs.Below.{HasTwo, IsDistinct, RuleSystem}
use Rattle.maker_core.specs.Made.{HasOne}
use Rattle.maker_core.specs.Thinning.{CluedGame, has_clue, IsThinnedFrom, GivesUp, IsReason}
use Rattle.maker_core.specs.declared.made.Why.{Why}
use Rattle.maker_core.specs.declared.made.Why.TheVariants.{Needed, Budget}
use Rattle.maker_core.specs.declared.made.Kept.{Kept}

-- what the verdict of a puzzle without a clue says for this reason
abbrev pub IsVerdict : RuleSystem → ℕ → Why → Type 0
IsVerdict rules budget Needed = HasTwo rules
IsVerdict rules budget Budget = GivesUp rules budget

-- the clue is gone, or the puzzle is as it was
abbrev pub IsLeft : {A : Type 0} → CluedGame A → ℕ → A → A → Option Why → Type 0
IsLeft game place old new None = new ≡ game.without old place
IsLeft game place old new (Some why) = new ≡ old

-- the verdict without the clue is one, or the reason
abbrev pub IsAsked : {A : Type 0} → CluedGame A → ℕ → ℕ → A → Option Why → Type 0
IsAsked game budget place p None = HasOne (game.rules (game.without p place)) budget
IsAsked game budget place p (Some why) = IsVerdict (game.rules (game.without p place)) budget why

-- what is told of a cell whose clue was tried: it has none, or the reason
abbrev pub IsTold : {A : Type 0} → CluedGame A → ℕ → A → A → ℕ → Option Why → Type 0
IsTold game budget all p place None = game.clue p place ≡ None
IsTold game budget all p place (Some why) =
    (has_clue game p place ≡ true) × IsReason game budget all p place why

-- the clues of these cells are still to be tried, and all others are told of
pub record IsThinning {A : Type 0} (game : CluedGame A) (budget : ℕ) (all p : A)
    (whys : List (Option Why)) (rest : List ℕ) : Type 0 where
  pub within : IsThinnedFrom game p all
  pub one : HasOne (game.rules p) budget
  pub waiting : (place : ℕ) → Contains rest place → has_clue game p place ≡ true
  pub different : IsDistinct eqb rest
  pub told : (place : ℕ)
      → Contains rest place ⊎ IsTold game budget all p place (get_or whys place None)
  pub room : length whys ≡ game.cells all

-- the reasons from a place on, with their places
unfoldable pub reasons_from : ℕ → List (Option Why) → List Kept
reasons_from place [] = []
reasons_from place (None ∷ whys) = reasons_from (suc place) whys
reasons_from place (Some why ∷ whys) =
    record { place = place; why = why } ∷ reasons_from (suc place) whys
