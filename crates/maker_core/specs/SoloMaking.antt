-- What a maker of Solo tries, its clues, and what it gives.
use Rattle.std.specs.Prelude.{Bool, List, None, Option, Some, [], false, length, slice_index, slice_set, suc, true, unwrap_or, zero, ℕ, ◌*◌, ◌<◌, ◌≡◌, ◌≤◌}
use Rattle.maker_core.specs.Below.{IsSoloSolution, Solo, Stream, houses_rules, max_numbers}
use Rattle.maker_core.specs.SoloFilling.{all_given, plain_filling, x_filling}
use Rattle.maker_core.specs.Thinning.{AreReasons, CluedGame, IsThinnedFrom, stream_after_clues}
use Rattle.maker_core.specs.Draws.{IsFirstPassing, Making, Tries, filling_at}
use Rattle.maker_core.specs.Made.{IsOnlySolution, TellsOne, has_one}
use Rattle.maker_core.specs.declared.made.Kept.{Kept}
use Rattle.maker_core.specs.declared.made.MakeFault.{MakeFault}
use Rattle.maker_core.specs.declared.made.MakeFault.TheVariants.{Exhausted, Memory, SizeRange}
use Rattle.maker_core.specs.declared.made.Limits.{Limits}
use Rattle.maker_core.specs.declared.made.Made.{Made}

-- The clues of Solo: the givens.

-- the clue of a cell, which holds 0 where it has none
abbrev pub given_clue : ℕ → Option ℕ
given_clue zero = None
given_clue (suc n) = Some (suc n)

-- the sizes agree, and both are Solo X or neither is
pub record SameSolo (p q : Solo) : Type 0 where
  pub c : p.c ≡ q.c
  pub r : p.r ≡ q.r
  pub x : p.x ≡ q.x
  pub cells : length p.givens ≡ length q.givens

abbrev pub solo_game : CluedGame Solo
solo_game = record {
  cells = λ p. length p.givens;
  same_frame = SameSolo;
  clue = λ p place. given_clue (slice_index p.givens place);
  without = λ p place. record p { givens = slice_set p.givens place 0 };
  all_clues = λ p g. all_given p.c p.r p.x g;
  rules = houses_rules;
}

-- What a maker of Solo tries, and what it gives.

-- sizes within the game's limits
pub record IsSoloSize (c r : ℕ) : Type 0 where
  pub c_low : 2 ≤ c
  pub r_low : 2 ≤ r
  pub n_high : c * r ≤ max_numbers

-- the filling of a try: plain Solo always has one, Solo X has one where the search of its top row finds a grid
abbrev pub solo_filling : ℕ → ℕ → Bool → ℕ → Making (Option (List ℕ))
solo_filling c r false budget s = let plain = plain_filling c r s in (Some plain.0, plain.1)
solo_filling c r true budget s = x_filling c r budget s

-- a filling passes where it is there and the verdict of the puzzle that gives all its cells is one
abbrev pub solo_passes : ℕ → ℕ → Bool → ℕ → Option (List ℕ) → Bool
solo_passes c r x budget None = false
solo_passes c r x budget (Some g) = has_one (houses_rules (all_given c r x g)) budget

-- none of the first so many tries found a grid to fill with
abbrev pub NoneFound : ℕ → ℕ → Bool → ℕ → Stream → ℕ → Type 0
NoneFound c r x budget s tries =
    (k : ℕ) → k < tries → filling_at (solo_filling c r x budget) k s ≡ None

-- The first of the fillings that passes gives the solution; the puzzle is of its size, has some of its numbers as givens,
-- and no other solution, and its own verdict says so. Each given that is left was kept for a reason: without it there are
-- two solutions, or the search of a puzzle that has all the others, and maybe more of the filling's numbers, gave up.
pub record IsSoloMade (c r : ℕ) (x : Bool) (budget tries : ℕ) (s : Stream)
    (p : Solo) (g : List ℕ) (kept : List Kept) : Type 0 where
  pub k : ℕ
  pub first : IsFirstPassing (solo_filling c r x budget) (solo_passes c r x budget) s tries k
  pub filled : filling_at (solo_filling c r x budget) k s ≡ Some g
  pub columns : p.c ≡ c
  pub rows : p.r ≡ r
  pub diagonals : p.x ≡ x
  pub givens : IsThinnedFrom solo_game p (all_given c r x g)
  pub only : IsOnlySolution (IsSoloSolution p) g
  pub verdict : TellsOne (houses_rules p) budget g
  pub reasons : AreReasons solo_game budget (all_given c r x g) p kept

-- what a maker tries and gives within its limits: the givens of the first filling that is there are shuffled
abbrev pub solo_tries : ℕ → ℕ → Bool → Limits → Tries (Option (List ℕ))
solo_tries c r x limits = record {
  make = solo_filling c r x limits.budget;
  passes = solo_passes c r x limits.budget;
  count = limits.tries;
  ends = λ filling. stream_after_clues solo_game (all_given c r x (unwrap_or filling []));
}

abbrev pub MakesSolo : ℕ → ℕ → Bool → Limits → Stream → Made Solo → Type 0
MakesSolo c r x limits s made = IsSoloSize c r
    × IsSoloMade c r x limits.budget limits.tries s made.puzzle made.answer made.kept.items

-- Why it gives nothing: no puzzle has the size; no try found a grid, and plain Solo had no try; or a try had no memory.
abbrev pub IsSoloUnmade : ℕ → ℕ → Bool → Limits → Stream → MakeFault → Type 0
IsSoloUnmade c r x limits s SizeRange = IsSoloSize c r → ⊥
IsSoloUnmade c r x limits s Exhausted = IsSoloSize c r × NoneFound c r x limits.budget s limits.tries
    × (x ≡ false → limits.tries ≡ 0)
IsSoloUnmade c r x limits s Memory = IsSoloSize c r × (1 ≤ limits.tries)
