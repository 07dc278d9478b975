-- Tables of count houses, and the rule sets that they make.
use Rattle.std.specs.Prelude.{◌↔◌, ◌≡◌, IsTrue, ℕ, zero, suc, ◌+◌, ◌<◌, ◌≤◌, ◌^◌, Bool, true, false, not, ◌&&◌, ◌==◌, List, [], ◌++◌, length, map, slice_index, slice_index_or}
use Rattle.fields_core.specs.Below.{AreDifferent, Candidates, IsGrid, IsGridOf, RuleSystem, all_of, has_place, max_cells, strikes_at, strikes_by_fillings}
use Rattle.fields_core.specs.Count.{counts_between}

-- cells, and the fewest and most ones that they may hold together
pub record CountHouse : Type 0 where
  pub places : List ℕ
  pub least : ℕ
  pub most : ℕ

abbrev pub no_count_house : CountHouse
no_count_house = record { places = []; least = 0; most = 0 }

-- cells that hold so many ones, one at most, and one at least
abbrev pub exactly : ℕ → List ℕ → CountHouse
exactly ones places = record { places = places; least = ones; most = ones }

abbrev pub one_at_most : List ℕ → CountHouse
one_at_most places = record { places = places; least = 0; most = 1 }

abbrev pub one_at_least : List ℕ → CountHouse
one_at_least places = record { places = places; least = 1; most = length places }

abbrev pub count_house_of : List CountHouse → ℕ → CountHouse
count_house_of houses h = slice_index_or houses h no_count_house

-- the houses of the numbers below n, by number
unfoldable pub houses_below : (ℕ → List CountHouse) → ℕ → List CountHouse
houses_below f zero = []
houses_below f (suc n) = houses_below f n ++ f n

-- the grid's ones in the house's cells are neither too few nor too many
unfoldable pub meets_house : CountHouse → List ℕ → Bool
meets_house house g = counts_between house.least house.most (map (slice_index g) house.places)

-- what a visit of the house strikes
unfoldable pub strikes_of : CountHouse → Candidates → ℕ → ℕ → Bool
strikes_of house =
    strikes_at 2 house.places (strikes_by_fillings (counts_between house.least house.most))

-- the board after a visit of the house
unfoldable pub after_house : CountHouse → Candidates → Candidates
after_house house K c v = K c v && not (strikes_of house K c v)

-- different cells of a board, few of them, and small numbers
pub record IsHouse (cells : ℕ) (house : CountHouse) : Type 0 where
  pub within : (c : ℕ) → has_place house.places c ≡ true → c < cells
  pub different : AreDifferent house.places
  pub few_places : length house.places ≤ 512
  pub least_small : house.least < 2 ^ 32
  pub most_small : house.most < 2 ^ 32

abbrev pub AreHouses : ℕ → List CountHouse → Type 0
AreHouses cells houses = (h : ℕ) → h < length houses → IsHouse cells (count_house_of houses h)

-- a blocked cell has only 0; all other sets are full
unfoldable pub start_of : ℕ → (ℕ → Bool) → Candidates
start_of cells blocked c v = all_of cells 2 c v && not (blocked c && (v == 1))

-- the rule set of count houses over such a start, closed by sweeps
abbrev pub count_puzzle : ℕ → (ℕ → Bool) → List CountHouse → (List ℕ → Bool) → RuleSystem
count_puzzle cells blocked houses is_solution = record {
  cells = cells;
  values = 2;
  houses = length houses;
  bound = cells + 1;
  visits_settle = true;
  by_queue = false;
  scope = λ h. (count_house_of houses h).places;
  start = start_of cells blocked;
  strikes = λ h. strikes_of (count_house_of houses h);
  is_solution = is_solution;
}

-- what a puzzle counts: its cells, which of them can only hold 0, its houses, and which grids solve it
pub record CountPuzzle : Type 0 where
  pub cells : ℕ
  pub blocked : ℕ → Bool
  pub houses : List CountHouse
  pub is_solution : List ℕ → Bool

-- its rules
abbrev pub rules_of : CountPuzzle → RuleSystem
rules_of p = count_puzzle p.cells p.blocked p.houses p.is_solution

-- the grids that rules accept are those that solve a puzzle
abbrev pub AcceptsJust : RuleSystem → (List ℕ → Type 0) → Type 0
AcceptsJust p solves = (g : List ℕ) → IsGridOf p g → (IsTrue (p.is_solution g)) ↔ solves g

-- the game's solutions leave blocked cells at 0 and meet each house
pub record IsCounting (cells : ℕ) (blocked : ℕ → Bool) (houses : List CountHouse)
    (is_solution : List ℕ → Bool)
    : Type 0 where
  pub few_cells : cells ≤ max_cells
  pub are_houses : AreHouses cells houses
  pub blocked_zero : (g : List ℕ) → IsGrid cells 2 g → is_solution g ≡ true
      → (c : ℕ) → c < cells → blocked c ≡ true → slice_index g c ≡ 0
  pub meets_each : (g : List ℕ) → IsGrid cells 2 g → is_solution g ≡ true
      → (h : ℕ) → h < length houses → meets_house (count_house_of houses h) g ≡ true

-- the grid leaves blocked cells at 0 and meets each house that has a cell
pub record AreMet (p : CountPuzzle) (g : List ℕ) : Type 0 where
  pub blocked_zero : (c : ℕ) → c < p.cells → p.blocked c ≡ true → slice_index g c ≡ 0
  pub meets_each : (h : ℕ) → h < length p.houses → 0 < length (count_house_of p.houses h).places
      → meets_house (count_house_of p.houses h) g ≡ true

-- Where a game flags, the flag says which grids that meet each house with a cell are solutions: none, or all.
abbrev pub IsFlagged : CountPuzzle → Bool → Bool → Type 0
IsFlagged p flags unmet = flags ≡ true → (g : List ℕ) → IsGrid p.cells 2 g → AreMet p g
    → p.is_solution g ≡ not unmet

abbrev pub IsCounted : CountPuzzle → Type 0
IsCounted p = IsCounting p.cells p.blocked p.houses p.is_solution
