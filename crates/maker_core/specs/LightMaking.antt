-- What a maker of Light Up tries, its clues, and what it gives.
use Rattle.std.specs.Prelude.{Bool, List, None, Option, Some, filter, if◌then◌else◌, length, map, replicate, slice_index, slice_index_or, slice_set, suc, true, zero, ℕ, ◌*◌, ◌==◌, ◌||◌, ◌≡◌, ◌≢◌, ◌≤◌}
use Rattle.maker_core.specs.Below.{Black, Extent, IsGrid, IsWide, Light, LightCell, Numbered, RuleSystem, Stream, White, bulb, bulbs_beside, is_white, light_cells, light_rules, range_with_len, sees_bulb, solves_lights, white}
use Rattle.maker_core.specs.declared.light_up.filling.LightFilling.{LightFilling}
use Rattle.maker_core.specs.Draws.{AllFail, IsFirstPassing, Making, Tries, black_cells, filling_at, shuffled_list}
use Rattle.maker_core.specs.Made.{IsOnlySolution, TellsOne, has_one}
use Rattle.maker_core.specs.Thinning.{AreReasons, CluedGame, IsThinnedFrom, stream_after_clues}
use Rattle.fields_core.specs.LightSolutions.{IsLightSolution}
use Rattle.maker_core.specs.declared.made.Kept.{Kept}
use Rattle.maker_core.specs.declared.made.Limits.{Limits}
use Rattle.maker_core.specs.declared.made.Made.{Made}
use Rattle.maker_core.specs.declared.made.MakeFault.{MakeFault}
use Rattle.maker_core.specs.declared.made.MakeFault.TheVariants.{Exhausted, Memory, SizeRange}

-- What a maker of Light Up tries. A grid has 1 at a bulb and 0 elsewhere.

-- the puzzle without numbers that has these black cells: 1 for black
unfoldable pub lights_of : Extent → List ℕ → Light
lights_of size black =
    record { size = size; cells = map (λ v. if v == 1 then Black else White) black }

-- its white cells, by place
unfoldable pub white_places : Light → List ℕ
white_places p = filter (white p) (range_with_len 0 (light_cells p))

-- a cell gets a bulb if it neither holds nor sees one
abbrev pub with_bulb : Light → List ℕ → ℕ → List ℕ
with_bulb p g c = if bulb g c || sees_bulb p g c then g else slice_set g c 1

-- the bulbs when the first k cells of the order were taken in turn
unfoldable pub bulbs_after : Light → List ℕ → ℕ → List ℕ
bulbs_after p order zero = replicate (light_cells p) 0
bulbs_after p order (suc k) = with_bulb p (bulbs_after p order k) (slice_index order k)

-- the puzzle with a number on every black cell: how many bulbs stand beside it
abbrev pub numbered_cell : Light → List ℕ → ℕ → LightCell
numbered_cell p g c = if white p c then White else Numbered (bulbs_beside p g c)

unfoldable pub with_numbers : Light → List ℕ → Light
with_numbers p g =
    record { size = p.size; cells = map (numbered_cell p g) (range_with_len 0 (light_cells p)) }

-- the white cells, listed by place and shuffled, are taken in turn
unfoldable pub lit_up : Light → Making (List ℕ)
lit_up p s =
    let shuffled = shuffled_list (white_places p) s in
    (bulbs_after p shuffled.0 (length shuffled.0), shuffled.1)

-- black cells are drawn one by one; then the white cells are lit up
unfoldable pub light_filling : Extent → ℕ → Making LightFilling
light_filling size black s =
    let drawn = black_cells black (size.w * size.h) s in
    let lit = lit_up (lights_of size drawn.0) drawn.1 in
    (record { black = drawn.0; bulbs = lit.0 }, lit.1)

-- its puzzle with all clues
unfoldable pub light_puzzle_of : Extent → LightFilling → Light
light_puzzle_of size filling = with_numbers (lights_of size filling.black) filling.bulbs

-- the rules of a search of that puzzle
abbrev pub light_rules_filled : Extent → LightFilling → RuleSystem
light_rules_filled size filling = light_rules (light_puzzle_of size filling)

-- a filling passes where the verdict of its puzzle is one
abbrev pub light_passes : Extent → ℕ → LightFilling → Bool
light_passes size budget filling = has_one (light_rules_filled size filling) budget

-- black cells and bulbs of so many cells; the bulbs solve its puzzle
pub record IsLit (size : Extent) (filling : LightFilling) : Type 0 where
  pub black : IsGrid (size.w * size.h) 2 filling.black
  pub bulbs : IsGrid (size.w * size.h) 2 filling.bulbs
  pub solved : solves_lights (light_puzzle_of size filling) filling.bulbs ≡ true

-- The clues of Light Up: the numbers of black cells.

-- the clue of a cell
abbrev pub number_clue : LightCell → Option ℕ
number_clue White = None
number_clue Black = None
number_clue (Numbered n) = Some n

-- the sizes and the black cells agree
pub record SameLight (p q : Light) : Type 0 where
  pub size : p.size ≡ q.size
  pub black : map is_white p.cells ≡ map is_white q.cells

-- a cell without its number is black
abbrev pub light_game : CluedGame Light
light_game = record {
  cells = λ p. length p.cells;
  same_frame = SameLight;
  clue = λ p place. number_clue (slice_index_or p.cells place Black);
  without = λ p place. record p { cells = slice_set p.cells place Black };
  all_clues = with_numbers;
  rules = light_rules;
}

-- What a maker of Light Up gives.

-- The first of the fillings that passes gives the solution and the black cells; the puzzle has some of its numbers and no
-- other solution, and its own verdict says so. Each number that is left was kept for a reason.
pub record IsLightMade (size : Extent) (black budget tries : ℕ) (s : Stream)
    (p : Light) (g : List ℕ) (kept : List Kept) : Type 0 where
  pub k : ℕ
  pub first : IsFirstPassing (light_filling size black) (light_passes size budget) s tries k
  pub numbers :
      IsThinnedFrom light_game p (light_puzzle_of size (filling_at (light_filling size black) k s))
  pub filled : g ≡ (filling_at (light_filling size black) k s).bulbs
  pub size_asked : p.size ≡ size
  pub only : IsOnlySolution (IsLightSolution p) g
  pub verdict : TellsOne (light_rules p) budget g
  pub reasons : AreReasons light_game budget (with_numbers p g) p kept

-- what a maker tries and gives within its limits: the numbers of the first filling that passes are shuffled
abbrev pub light_tries : Extent → ℕ → Limits → Tries LightFilling
light_tries size black limits = record {
  make = light_filling size black;
  passes = light_passes size limits.budget;
  count = limits.tries;
  ends = λ filling. stream_after_clues light_game (light_puzzle_of size filling);
}

abbrev pub MakesLights : Extent → ℕ → Limits → Stream → Made Light → Type 0
MakesLights size black limits s made = IsWide size
    × IsLightMade size black limits.budget limits.tries s made.puzzle made.answer made.kept.items

-- Why it gives nothing: no puzzle has the size; no try passes, and one has a white cell; or a try had no memory.
abbrev pub IsLightUnmade : Extent → ℕ → Limits → Stream → MakeFault → Type 0
IsLightUnmade size black limits s SizeRange = IsWide size → ⊥
IsLightUnmade size black limits s Exhausted = IsWide size × AllFail (light_tries size black limits) s
    × (1 ≤ limits.tries → black ≢ 100)
IsLightUnmade size black limits s Memory = IsWide size × (1 ≤ limits.tries)
