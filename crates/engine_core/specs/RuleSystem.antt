-- What a rule set means, and what every rule set keeps to.
use Rattle.std.specs.Prelude.{◌≡◌, ℕ, zero, suc, max, Option, Some, None, ◌==◌, ◌+◌, ◌-◌, ◌*◌, ◌<◌, ◌≤◌, Bool, true, false, not, cond, ◌&&◌, List, length, slice_index}
use Rattle.engine_core.specs.Below.{Candidates, IsGrid, IsInside, IsWithin, Layout, cells_of, count_below, list_any, max_cells, max_values, single, sum_below}

-- what a rule set means: its cells, values and houses, the most visits or sweeps of one closing, whether a visit leaves
-- nothing to strike for a second one of the same house in a row (`visits_settle`), whether closings go by a queue, the
-- cells of a house, where a search starts, what a visit of a house strikes (house, board, cell, value), and which grids
-- are solutions
pub record RuleSystem : Type 0 where
  pub cells : ℕ
  pub values : ℕ
  pub houses : ℕ
  pub bound : ℕ
  pub visits_settle : Bool
  pub by_queue : Bool
  pub scope : ℕ → List ℕ
  pub start : Candidates
  pub strikes : ℕ → Candidates → ℕ → ℕ → Bool
  pub is_solution : List ℕ → Bool

-- the list has the place
unfoldable pub has_place : List ℕ → ℕ → Bool
has_place xs place = list_any (λ x. x == place) xs

-- a list of one value for each cell
abbrev pub IsGridOf : RuleSystem → List ℕ → Type 0
IsGridOf p g = IsGrid p.cells p.values g

-- the board without all that a visit of the house strikes, taken together
unfoldable pub after : RuleSystem → ℕ → Candidates → Candidates
after p h K c v = K c v && not (p.strikes h K c v)

-- no house strikes a value that its cell still has
abbrev pub IsClosed : RuleSystem → Candidates → Type 0
IsClosed p K = (h c v : ℕ) → h < p.houses → K c v ≡ true → p.strikes h K c v ≡ false

-- a grid inside the start from which no house strikes anything
pub record IsClosedGrid (p : RuleSystem) (g : List ℕ) : Type 0 where
  pub fits : IsGridOf p g
  pub inside : IsInside (single g) p.start
  pub closed : IsClosed p (single g)

-- the house strikes no value that its cells still have
abbrev pub IsIdle : RuleSystem → ℕ → Candidates → Type 0
IsIdle p h K = (c v : ℕ) → K c v ≡ true → p.strikes h K c v ≡ false

-- at the cells of the list, each value that the first board has, the second has
abbrev pub IsInsideAt : List ℕ → Candidates → Candidates → Type 0
IsInsideAt scope K L =
    (c v : ℕ) → has_place scope c ≡ true → K c v ≡ true → L c v ≡ true

-- how many visits a value lost by the cell can call for: one of each house that has the cell, but for the house
-- just visited where visits settle
unfoldable pub share : RuleSystem → ℕ → ℕ
share p c = count_below (λ h. has_place (p.scope h) c) p.houses - cond p.visits_settle 1 0

-- The bound is large enough: in a queue for each house once, and each cell's houses once more for each value that the cell
-- can lose; in sweeps for each value that the cells can lose, and one sweep more.
abbrev pub most_visits : RuleSystem → ℕ
most_visits p = p.houses + sum_below (λ c. (p.values - 1) * share p c) p.cells

abbrev pub AreEnoughVisits : RuleSystem → Type 0
AreEnoughVisits p = p.by_queue ≡ true → most_visits p ≤ p.bound

abbrev pub AreEnoughSweeps : RuleSystem → Type 0
AreEnoughSweeps p = p.by_queue ≡ false → p.cells * (p.values - 1) + 1 ≤ p.bound

-- what every rule set keeps to
pub record IsLawful (p : RuleSystem) : Type 0 where
  -- what is struck in a board is struck in every board that has no more in the house's cells
  pub strikes_inside : (h : ℕ) (K L : Candidates) → h < p.houses → IsInsideAt (p.scope h) K L
      → (c v : ℕ) → p.strikes h L c v ≡ true → p.strikes h K c v ≡ true
  -- a house strikes in its own cells alone
  pub strikes_in_scope : (h : ℕ) (K : Candidates) (c v : ℕ) → h < p.houses
      → p.strikes h K c v ≡ true → has_place (p.scope h) c ≡ true
  -- a solution lies inside the start, and nothing of it is ever struck
  pub solutions_start : (g : List ℕ) → IsGridOf p g → p.is_solution g ≡ true
      → IsInside (single g) p.start
  pub solutions_closed : (g : List ℕ) → IsGridOf p g → p.is_solution g ≡ true
      → IsClosed p (single g)
  -- where visits settle, one of a house leaves no value of the board for a second one
  pub settles : p.visits_settle ≡ true → (h : ℕ) (K : Candidates) (c v : ℕ) → h < p.houses
      → v < p.values → after p h K c v ≡ true → p.strikes h (after p h K) c v ≡ false
  pub bound_of_queue : AreEnoughVisits p
  pub bound_of_sweeps : AreEnoughSweeps p
  pub some_values : 1 ≤ p.values
  pub few_values : p.values ≤ max_values
  pub few_cells : p.cells ≤ max_cells
  pub start_within : IsWithin p.cells p.values p.start
  -- a house has different places of the board
  pub scope_within : (h c : ℕ) → h < p.houses → has_place (p.scope h) c ≡ true
      → c < p.cells
  pub scope_distinct : (h j k : ℕ) → h < p.houses → j < length (p.scope h)
      → k < length (p.scope h)
      → slice_index (p.scope h) j ≡ slice_index (p.scope h) k → j ≡ k

-- what memory is taken for
pub record Needs : Type 0 where
  pub cells : ℕ
  pub values : ℕ
  pub houses : ℕ
  pub bound : ℕ
  pub scope : ℕ

-- the longest of the first n scopes
unfoldable pub longest : (ℕ → List ℕ) → ℕ → ℕ
longest scope zero = 0
longest scope (suc n) = max (longest scope n) (length (scope n))

-- what a rule set needs memory for
abbrev pub needs_of : RuleSystem → Needs
needs_of p = record {
  cells = p.cells;
  values = p.values;
  houses = p.houses;
  bound = p.bound;
  scope = longest p.scope p.houses;
}

-- memory that was taken for the second serves the first
pub record FitsIn (need had : Needs) : Type 0 where
  pub same_cells : need.cells ≡ had.cells
  pub same_values : need.values ≡ had.values
  pub houses_in : need.houses ≤ had.houses
  pub bound_in : need.bound ≤ had.bound
  pub scope_in : need.scope ≤ had.scope

-- the board has the rules' cells and values
pub record IsBoardOf (p : RuleSystem) (b : Layout) : Type 0 where
  pub same_cells : cells_of b ≡ p.cells
  pub same_values : b.values ≡ p.values

-- the answer is the least number from `from` on, and below n, that passes
abbrev pub IsNext : (ℕ → Bool) → ℕ → ℕ → Option ℕ → Type 0
IsNext p n from None = (j : ℕ) → from ≤ j → j < n → p j ≡ false
IsNext p n from (Some k) =
    (from ≤ k) × (k < n) × (p k ≡ true)
    × ((j : ℕ) → from ≤ j → j < k → p j ≡ false)

-- the least house from `from` on that has the place
abbrev pub IsNextAt : RuleSystem → ℕ → ℕ → Option ℕ → Type 0
IsNextAt p place from next = IsNext (λ h. has_place (p.scope h) place) p.houses from next
