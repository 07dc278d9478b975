-- Which cells and values are open in each house of a board.
use Rattle.std.specs.Prelude.{◌≡◌, ℕ, ◌<◌, ◌≤◌, ◌==◌, ◌&&◌, ◌+◌, ◌*◌, ◌/◌, ◌%◌, Bool, true, List, length, slice_index, slice_index_or, if◌then◌else◌}
use Rattle.solo_core.specs.Common.{Candidates, RuleSystem, Solo, has_bit, houses_of}
use Rattle.gameid_core.specs.Head.{max_numbers}
use Rattle.engine_core.specs.RuleSystem.{Needs}
use Rattle.solo_core.specs.RuleSets.{houses_rules}
use Rattle.solo_core.specs.PeeledHouses.{IsSingleSet}
use Rattle.solo_core.specs.OpenHouses.{IsOpenHouse}
use Rattle.solo_core.specs.declared.visits.open.OpenHouse.{OpenHouse}
use Rattle.solo_core.specs.declared.visits.spots.Spot.{Spot}

-- which value the house's cell with that number has
abbrev pub house_has : RuleSystem → ℕ → Candidates → ℕ → ℕ → Bool
house_has p h K k v = K (slice_index (p.scope h) k) v

abbrev pub no_open_house : OpenHouse
no_open_house = record { cells = 0; values = 0 }

abbrev pub open_at : List OpenHouse → ℕ → OpenHouse
open_at houses h = slice_index_or houses h no_open_house

-- each house is one of n cells and n values, and is open so
abbrev pub AreOpenIn : RuleSystem → Candidates → List OpenHouse → Type 0
AreOpenIn p K houses = (h : ℕ) → h < p.houses → IsOpenHouse (house_has p h K) p.values (open_at houses h)

-- the cell of the place is open in each house that has it
abbrev pub IsOpenCell : RuleSystem → List OpenHouse → ℕ → Type 0
IsOpenCell p houses place = (h k : ℕ) → h < p.houses → k < p.values
    → slice_index (p.scope h) k ≡ place → has_bit (open_at houses h).cells k ≡ true

-- where a cell stands in a house
pub record StandsAt (p : RuleSystem) (place h k : ℕ) : Type 0 where
  pub house_in : h < p.houses
  pub cell_in : k < p.values
  pub is : slice_index (p.scope h) k ≡ place

abbrev pub no_spot : Spot
no_spot = record { house = 0; cell = 0 }

abbrev pub spot_at : List Spot → ℕ → Spot
spot_at spots i = slice_index_or spots i no_spot

-- the spots name houses of the list, and cells of theirs
abbrev pub AreSpotsIn : List OpenHouse → List Spot → Type 0
AreSpotsIn houses spots = (i : ℕ) → i < length spots
    → ((spot_at spots i).house < length houses) × ((spot_at spots i).cell < 32)

-- the cell of the place stands at each of these spots; and at no other
abbrev pub AreSpotsOf : RuleSystem → ℕ → List Spot → Type 0
AreSpotsOf p place spots = (i : ℕ) → i < length spots
    → StandsAt p place (spot_at spots i).house (spot_at spots i).cell

abbrev pub AreAllSpotsOf : RuleSystem → ℕ → List Spot → Type 0
AreAllSpotsOf p place spots = (h k : ℕ) → StandsAt p place h k
    → (i : ℕ) × (i < length spots) × ((spot_at spots i).house ≡ h) × ((spot_at spots i).cell ≡ k)

-- in whichever board the cell at these spots has the set's one value, the second houses are open where the first are
abbrev pub StayOpenWith : List Spot → ℕ → List OpenHouse → List OpenHouse → Type 0
StayOpenWith spots set old new =
    (p : RuleSystem) (K : Candidates) (place value : ℕ) → AreSpotsOf p place spots
    → value < p.values → IsSingleSet set value → ((w : ℕ) → K place w ≡ (w == value))
    → AreOpenIn p K old → AreOpenIn p K new

-- the cell is open at the first n of these spots
abbrev pub AreOpenSpots : List OpenHouse → List Spot → ℕ → Type 0
AreOpenSpots houses spots n = (i : ℕ) → i < n → i < length spots
    → has_bit (open_at houses (spot_at spots i).house).cells (spot_at spots i).cell ≡ true

-- Where the cells of puzzles of one size stand in their houses.

-- so many spots are listed for each cell
abbrev pub spots_each : Bool → ℕ
spots_each x = if x then 5 else 3

-- the i-th spot of the cell of row y and column x, where blocks are r wide and c tall: that in its row, in its column, in its
-- block, and in a diagonal that has it; where none has it, its row again
abbrev pub spot_in : ℕ → ℕ → ℕ → ℕ → ℕ → Spot
spot_in c r y x i =
    if i == 1 then record { house = c * r + x; cell = y }
    else (if i == 2 then record { house = 2 * (c * r) + (y / c * c + x / r); cell = y % c * r + x % r }
    else (if (i == 3) && (y == x) then record { house = 3 * (c * r); cell = y }
    else (if (i == 4) && (y + x + 1 == c * r) then record { house = 3 * (c * r) + 1; cell = y }
    else record { house = y; cell = x })))

-- that of the cell of a place
unfoldable pub spot_of : ℕ → ℕ → ℕ → ℕ → Spot
spot_of c r place i = spot_in c r (place / (c * r)) (place % (c * r)) i

-- the spots of all cells, one after another
abbrev pub AreAllSpots : ℕ → ℕ → ℕ → List Spot → Type 0
AreAllSpots c r each spots = (j : ℕ) → j < c * r * (c * r) * each
    → spot_at spots j ≡ spot_of c r (j / each) (j % each)

-- those of one cell
pub record AreSpotsAt (c r each place : ℕ) (spots : List Spot) : Type 0 where
  pub as_many : length spots ≡ each
  pub is : (i : ℕ) → i < each → spot_at spots i ≡ spot_of c r place i

-- what callers see of a table of spots: for which size it is, and the spots
pub record SpotList : Type 0 where
  pub c : ℕ
  pub r : ℕ
  pub x : Bool
  pub spots : List Spot

-- the table is for the size of the puzzle
pub record IsSizeOf (p : Solo) (table : SpotList) : Type 0 where
  pub same_c : table.c ≡ p.c
  pub same_r : table.r ≡ p.r
  pub same_x : table.x ≡ p.x

-- the table's spots are those of its size
pub record IsSpotTable (c r : ℕ) (x : Bool) (spots : List Spot) : Type 0 where
  pub room : c * r * (c * r) * spots_each x ≤ length spots
  pub few : c * r ≤ max_numbers
  pub are : AreAllSpots c r (spots_each x) spots

-- What a search of a puzzle keeps beside its board.

-- which cells and values of each house are open, and where each cell stands
pub record AreNotesOf (p : Solo) (K : Candidates) (houses : List OpenHouse) (table : SpotList) : Type 0 where
  pub enough : length (houses_of p) ≤ length houses
  pub size : IsSizeOf p table
  pub are_open : AreOpenIn (houses_rules p) K houses

-- the memory is enough for these needs: as many values, and no more houses and cells
pub record HasRoomFor (houses spots kept rest : ℕ) (needs : Needs) : Type 0 where
  pub houses_in : needs.houses ≤ houses
  pub spots_in : needs.cells * 5 ≤ spots
  pub kept_in : needs.values ≡ kept
  pub rest_in : needs.values ≡ rest
