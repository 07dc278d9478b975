-- Puzzles of houses: each house strikes in its own places, by a decision of its own.
use Rattle.std.specs.Prelude.{◌≡◌, ℕ, ◌+◌, ◌*◌, ◌<◌, ◌≤◌, Bool, true, false, not, ◌&&◌, ◌==◌, List, [], map, length, get_or, slice_index, slice_index_or}
use Rattle.engine_core.specs.Below.{Candidates, IsGrid, IsInside, IsWithin, max_cells, max_values, single}
use Rattle.engine_core.specs.RuleSystem.{RuleSystem}
use Rattle.engine_core.specs.Filling.{Set, has_value}
use Rattle.engine_core.specs.HouseSets.{Decision, strikes_at, IsMonotone, AreDifferent}

-- the places of its cells, and which values are struck from which of them, by their sets
pub record House : Type 0 where
  pub places : List ℕ
  pub decides : Decision

abbrev pub no_house : House
no_house = record { places = []; decides = λ sets place value. false }

abbrev pub house_of : List House → ℕ → House
house_of houses h = slice_index_or houses h no_house

-- the visits that a house can call for: one, and one more for each value of each of its cells
abbrev pub visits_of : ℕ → House → ℕ
visits_of values house = 1 + length house.places * values

-- all of a puzzle but its houses
pub record Setting : Type 0 where
  pub cells : ℕ
  pub values : ℕ
  pub bound : ℕ
  pub visits_settle : Bool
  pub by_queue : Bool
  pub start : Candidates
  pub is_solution : List ℕ → Bool

-- the puzzle of these houses
abbrev pub by_houses : Setting → List House → RuleSystem
by_houses s houses = record {
  cells = s.cells;
  values = s.values;
  houses = length houses;
  bound = s.bound;
  visits_settle = s.visits_settle;
  by_queue = s.by_queue;
  scope = λ h. (house_of houses h).places;
  start = s.start;
  strikes = λ h. strikes_at s.values (house_of houses h).places (house_of houses h).decides;
  is_solution = s.is_solution;
}

-- the sets that a visit leaves
pub record AreLeft (decides : Decision) (old new : List Set) : Type 0 where
  pub as_many : length new ≡ length old
  pub left : (k v : ℕ) → k < length old
      → has_value (get_or new k []) v ≡ (has_value (get_or old k []) v && not (decides old k v))

-- a second visit strikes nothing more
abbrev pub IsSettled : Decision → Type 0
IsSettled decides = (old new : List Set) (k v : ℕ) → AreLeft decides old new → k < length old
    → has_value (get_or new k []) v ≡ true → decides new k v ≡ false

-- each set has one value, the list's
pub record AreOwn (filling : List ℕ) (sets : List Set) : Type 0 where
  pub as_many : length sets ≡ length filling
  pub own : (k v : ℕ) → k < length filling
      → has_value (get_or sets k []) v ≡ (get_or filling k 0 == v)

-- cells that have the list's values alone lose none
abbrev pub Keeps : Decision → List ℕ → Type 0
Keeps decides filling = (sets : List Set) (k : ℕ) → AreOwn filling sets → k < length filling
    → decides sets k (get_or filling k 0) ≡ false

-- what a house keeps to: it has different places of the board; what it strikes from larger sets it strikes from smaller
-- ones; of a solution it strikes nothing; and where that is claimed, a second visit strikes nothing more
pub record IsSound (s : Setting) (house : House) : Type 0 where
  pub within : (k : ℕ) → k < length house.places → slice_index house.places k < s.cells
  pub different : AreDifferent house.places
  pub monotone : IsMonotone house.decides
  pub keeps : (g : List ℕ) → IsGrid s.cells s.values g → s.is_solution g ≡ true
      → Keeps house.decides (map (slice_index g) house.places)
  pub settles : s.visits_settle ≡ true → IsSettled house.decides

-- what the rest of a puzzle keeps to
pub record IsSetting (s : Setting) : Type 0 where
  pub some_values : 1 ≤ s.values
  pub few_values : s.values ≤ max_values
  pub few_cells : s.cells ≤ max_cells
  pub start_within : IsWithin s.cells s.values s.start
  pub solutions_start : (g : List ℕ) → IsGrid s.cells s.values g → s.is_solution g ≡ true
      → IsInside (single g) s.start
