-- The runs of one line, visited at once. No public contract uses these words.
use Rattle.std.specs.Prelude.{◌≡◌, ℕ, ◌+◌, ◌*◌, ◌/◌, ◌%◌, ◌<◌, Bool, true, false, ◌&&◌, nat_lt, List, map, slice_index}
use Rattle.fields_core.specs.Below.{AllByRecursion, Extent, Layers, Light, Line, any_below, at_line, crosses, planes_have, has_bit, has_place, line_len, list_any}
use Rattle.fields_core.specs.CountHouse.{CountHouse, IsHouse, houses_below}
use Rattle.fields_core.specs.LightHouses.{column_house}
use Rattle.fields_core.specs.Visits.{AreVisited}

-- the word of each number of a line whose words are that far apart, and whether they have one
abbrev pub word_along : {W : Type 0} → (W → ℕ) → List W → ℕ → ℕ → ℕ → ℕ
word_along bits words first stride k = slice_index (map bits words) (first + k * stride)

abbrev pub ReachesAlong : ℕ → ℕ → ℕ → ℕ → Type 0
ReachesAlong long first stride len = (k : ℕ) → k < len → first + k * stride < long

-- whether the marked ones have one
abbrev pub ReachesMarked : ℕ → ℕ → ℕ → ℕ → Type 0
ReachesMarked long first stride marked =
    (k : ℕ) → has_bit marked k ≡ true → first + k * stride < long

-- the bits are the numbers that are in a run with a marked one, and no two marked ones are in one run
pub record AreAround (run : ℕ → ℕ) (room marked bits : ℕ) : Type 0 where
  pub is : (k : ℕ) → has_bit bits k ≡ any_below (λ j. has_bit marked j && has_bit (run j) k) room
  pub apart : (j k : ℕ) → j < k → has_bit marked j ≡ true → has_bit marked k ≡ true
      → has_bit (run j) k ≡ false

-- the same of a line, by the words of its numbers
abbrev pub AreAroundAlong : {W : Type 0} → (W → ℕ) → ℕ → List W → ℕ → ℕ → W → W → Type 0
AreAroundAlong bits room words first stride marked around =
    AreAround (word_along bits words first stride) room (bits marked) (bits around)

-- two marked numbers are in one run
pub record IsClash (run : ℕ → ℕ) (marked : ℕ) : Type 0 where
  pub one : ℕ
  pub other : ℕ
  pub after : one < other
  pub one_marked : has_bit marked one ≡ true
  pub other_marked : has_bit marked other ≡ true
  pub same : has_bit (run one) other ≡ true

-- a house of one at most, whose cells are numbers of a line that are joined to one another
pub record IsRunOf (cells n : ℕ) (cell : ℕ → ℕ) (joined : ℕ → ℕ → Bool) (house : CountHouse)
    : Type 0 where
  pub is : IsHouse cells house
  pub least_is : house.least ≡ 0
  pub most_is : house.most ≡ 1
  pub joins : (c d : ℕ) → has_place house.places c ≡ true → has_place house.places d ≡ true
      → (j : ℕ) × (k : ℕ) × (j < n) × (k < n) × (cell j ≡ c) × (cell k ≡ d)
      × (joined j k ≡ true)

-- the houses of the runs of a line of n cells: numbers that are joined have one
pub record AreRunsOf (size : Extent) (line : Line) (n : ℕ) (cell : ℕ → ℕ)
    (joined : ℕ → ℕ → Bool) (houses : List CountHouse) : Type 0 where
  pub own : (j k : ℕ) → j < n → k < n → cell j ≡ cell k → j ≡ k
  pub at_cell : (bits c : ℕ) → crosses line bits (c / size.w) (c % size.w) ≡ true
      → (k : ℕ) × (cell k ≡ c) × (has_bit bits k ≡ true)
  pub from_cell : (bits k : ℕ) → k < n → has_bit bits k ≡ true
      → crosses line bits (cell k / size.w) (cell k % size.w) ≡ true
  pub values : (p : Layers) (v k : ℕ) → p.size ≡ size → v < 2 → k < n
      → at_line p line v k ≡ planes_have p (cell k) v
  pub each : AllByRecursion (IsRunOf (size.w * size.h) n cell joined) houses
  pub some : (j k : ℕ) → j < n → k < n → joined j k ≡ true
      → list_any (λ house. has_place house.places (cell j) && has_place house.places (cell k))
      houses ≡ true

-- visits of the houses of a line's runs, by the word of the run that each of its numbers is in
abbrev pub AreRunsVisited : Line → (ℕ → ℕ) → Layers → Layers → Bool → Type 0
AreRunsVisited line run from to fills =
    (len : ℕ) (cell : ℕ → ℕ) (joined : ℕ → ℕ → Bool) (houses : List CountHouse)
    → line_len from.size line ≡ len → AreRunsOf from.size line len cell joined houses
    → ((j k : ℕ) → j < len → has_bit (run j) k ≡ (nat_lt k len && joined j k))
    → AreVisited houses from to fills

-- the houses of the runs of a column, from the top
abbrev pub column_runs_of_column : Light → ℕ → List CountHouse
column_runs_of_column p x = houses_below (λ y. column_house p (y * p.size.w + x)) p.size.h
