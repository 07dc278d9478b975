-- Puzzles with fewer clues, and why the clues that are left were left.
use Rattle.std.specs.Prelude.{◌≡◌, ◌≢◌, ℕ, Bool, true, false, is_some, Option, Some, None, List, ◌<◌, map, filter, All, Vec}
use Rattle.maker_core.specs.Below.{FitsIn, HasTwo, IsTrueOf, Outcome.GaveUp, Outcome.OneSolution, RuleSystem, Solves, Stream, needs_of, range_with_len, verdict_of}
use Rattle.maker_core.specs.Draws.{AreDrawnBy, Making, shuffled_list}
use Rattle.maker_core.specs.declared.made.Why.{Why}
use Rattle.maker_core.specs.declared.made.Why.TheVariants.{Needed, Budget}
use Rattle.maker_core.specs.declared.made.Kept.{Kept}
use Rattle.maker_core.specs.declared.made.Made.{Made}

-- a game whose puzzles have clues in cells
pub record CluedGame (A : Type 0) : Type 1 where
  -- how many cells a puzzle has
  pub cells : A → ℕ
  -- the two puzzles are the same but for their clues
  pub same_frame : A → A → Type 0
  -- the clue of a cell
  pub clue : A → ℕ → Option ℕ
  -- the puzzle without the clue of a cell
  pub without : A → ℕ → A
  -- the puzzle with each clue that a grid tells
  pub all_clues : A → List ℕ → A
  -- what the puzzle means to a search
  pub rules : A → RuleSystem

-- the puzzle is the other without the clue of a cell, which was this
abbrev pub IsWithout : {A : Type 0} → CluedGame A → ℕ → ℕ → A → A → Type 0
IsWithout game place clue less p = (game.clue p place ≡ Some clue) × (less ≡ game.without p place)

-- whether the cell has a clue, and the cells that have one, by place
abbrev pub has_clue : {A : Type 0} → CluedGame A → A → ℕ → Bool
has_clue game p place = is_some (game.clue p place)

abbrev pub clue_places : {A : Type 0} → CluedGame A → A → List ℕ
clue_places game p = filter (has_clue game p) (range_with_len 0 (game.cells p))

-- they are shuffled; and the stream that is left then
abbrev pub shuffled_clues : {A : Type 0} → CluedGame A → A → Making (List ℕ)
shuffled_clues game p = shuffled_list (clue_places game p)

abbrev pub stream_after_clues : {A : Type 0} → CluedGame A → A → Stream → Stream
stream_after_clues game p s = (shuffled_clues game p s).1

-- the list is the clues, shuffled by a generator's stream; and what is left of the stream is what is left then
abbrev pub AreShuffledClues : {A G Z : Type 0}
    → CluedGame A → A → (G → Stream) → G → G → Vec ℕ Z → Type 0
AreShuffledClues game p = AreDrawnBy (shuffled_clues game p)

abbrev pub DrawsClues : {A G : Type 0} → CluedGame A → A → (G → Stream) → G → G → Type 0
DrawsClues game p stream old new = stream new ≡ stream_after_clues game p (stream old)

-- each clue of p is a clue of q
pub record IsThinnedFrom {A : Type 0} (game : CluedGame A) (p q : A) : Type 0 where
  pub frame : game.same_frame p q
  pub clues : (place n : ℕ) → game.clue p place ≡ Some n → game.clue q place ≡ Some n

-- each solution of a puzzle with more clues is one of the puzzle
abbrev pub KeepsSolutions : {A : Type 0} → CluedGame A → (A → List ℕ → Type 0) → Type 0
KeepsSolutions {A} game solves = (p q : A) (g : List ℕ)
    → IsThinnedFrom game p q → solves q g → solves p g

-- the grid is a solution, and no other grid is
abbrev pub IsOnly : RuleSystem → List ℕ → Type 0
IsOnly rules answer = IsTrueOf rules (OneSolution answer)

-- the verdict with the budget is that the search gives up
pub record GivesUp (rules : RuleSystem) (budget : ℕ) : Type 0 where
  pub found : Option (List ℕ)
  pub verdict : verdict_of rules budget ≡ GaveUp found

-- the search gives up on some puzzle that hasn't the clue of the cell: one with each other clue of p and no clue but
-- those of `all`
pub record IsHard {A : Type 0} (game : CluedGame A) (budget : ℕ) (all p : A)
    (place : ℕ) : Type 0 where
  pub thicker : A
  pub lacks : game.clue thicker place ≡ None
  pub over : IsThinnedFrom game (game.without p place) thicker
  pub under : IsThinnedFrom game thicker all
  pub gave_up : GivesUp (game.rules thicker) budget

-- the clue of the cell was left for this reason
abbrev pub IsReason : {A : Type 0} → CluedGame A → ℕ → A → A → ℕ → Why → Type 0
IsReason game budget all p place Needed = HasTwo (game.rules (game.without p place))
IsReason game budget all p place Budget = IsHard game budget all p place

-- an entry for each clue of p, by place, with the reason why it was left
pub record AreReasons {A : Type 0} (game : CluedGame A) (budget : ℕ) (all p : A)
    (kept : List Kept) : Type 0 where
  pub places : map (λ k. k.place) kept ≡ clue_places game p
  pub reasons : All (λ k. IsReason game budget all p k.place k.why) kept

-- so it is of a puzzle that was made, among those of its clues that the answer tells
abbrev pub HasReasons : {A : Type 0} → CluedGame A → ℕ → List ℕ → Made A → Type 0
HasReasons game budget answer made =
    AreReasons game budget (game.all_clues made.puzzle answer) made.puzzle made.kept.items

-- where each clue that was left is needed, every puzzle without one of them has two solutions
abbrev pub LeavesNoIdleClue : {A : Type 0} → CluedGame A → Type 0
LeavesNoIdleClue {A} game = (budget : ℕ) (all p q : A) (kept : List Kept) (place : ℕ)
    → AreReasons game budget all p kept → All (λ k. k.why ≡ Needed) kept
    → IsThinnedFrom game q p
    → has_clue game p place ≡ true → has_clue game q place ≡ false
    → HasTwo (game.rules q)

-- what fewer clues change: no solution is lost, and a search needs no more memory
pub record IsGame {A : Type 0} (game : CluedGame A) : Type 0 where
  pub same_itself : (p : A) → game.same_frame p p
  pub same_back : (p q : A) → game.same_frame p q → game.same_frame q p
  pub same_through : (p q r : A)
      → game.same_frame p q → game.same_frame q r → game.same_frame p r
  pub clue_in : (p : A) (place n : ℕ) → game.clue p place ≡ Some n → place < game.cells p
  pub same_cells : (p q : A) → game.same_frame p q → game.cells p ≡ game.cells q
  pub same_all : (p q : A) (g : List ℕ)
      → game.same_frame p q → game.all_clues p g ≡ game.all_clues q g
  pub solutions_stay : (p q : A) (g : List ℕ)
      → IsThinnedFrom game p q → Solves (game.rules q) g → Solves (game.rules p) g
  pub without_frame : (p : A) (place n : ℕ)
      → game.clue p place ≡ Some n → game.same_frame (game.without p place) p
  pub without_it : (p : A) (place : ℕ) → game.clue (game.without p place) place ≡ None
  pub others_stay : (p : A) (place other : ℕ) → other ≢ place
      → game.clue (game.without p place) other ≡ game.clue p other
  pub needs_less : (p : A) (place n : ℕ) → game.clue p place ≡ Some n
      → FitsIn (needs_of (game.rules (game.without p place))) (needs_of (game.rules p))
