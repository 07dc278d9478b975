-- Which grids solve a puzzle of Solo (the manual of Simon Tatham's Portable Puzzle Collection, Solo): each given stands,
-- and each house holds every number once. A grid holds the number v as v - 1.
use Rattle.std.specs.Prelude.{◌≡◌, ℕ, ◌+◌, ◌<◌, ◌≤◌, Bool, true, ◌&&◌, ◌||◌, ◌==◌, List, map, slice_index}
use Rattle.std.specs.List.{list_all}
use Rattle.grid_core.specs.Candidates.{all_below}
use Rattle.grid_core.specs.Grids.{IsGrid}
use Rattle.gameid_core.specs.Puzzles.{Solo, solo_n}
use Rattle.solo_core.specs.declared.houses.house.NamedHouse.{NamedHouse}
use Rattle.solo_core.specs.Houses.{IsSoloHouse, houses_of, lies_in_house, no_repeat, places_of, solo_cells}

pub record IsSoloSolution (p : Solo) (g : List ℕ) : Type 0 where
  pub grid : IsGrid (solo_cells p) (solo_n p) g
  -- a given stands
  pub givens : (place : ℕ) → place < solo_cells p → 1 ≤ slice_index p.givens place
      → slice_index g place + 1 ≡ slice_index p.givens place
  -- different places of one house hold different numbers
  pub different : (house : NamedHouse) → IsSoloHouse p house
      → (j k : ℕ) → j < solo_cells p → k < solo_cells p → (j ≡ k → ⊥)
      → lies_in_house p house j ≡ true → lies_in_house p house k ≡ true → slice_index g j ≡ slice_index g k → ⊥

-- what stands and differs, as a test of a grid of the puzzle, house by house
abbrev pub given_stands : Solo → List ℕ → ℕ → Bool
given_stands p g place =
    (slice_index p.givens place == 0) || (slice_index g place + 1 == slice_index p.givens place)

abbrev pub numbers_of : Solo → List ℕ → NamedHouse → List ℕ
numbers_of p g house = map (slice_index g) (places_of p house)

unfoldable pub is_solo_solution : Solo → List ℕ → Bool
is_solo_solution p g =
    all_below (given_stands p g) (solo_cells p)
    && list_all (λ house. no_repeat (numbers_of p g house)) (houses_of p)
