-- What may be struck from a house before its cells are paired with values: the value of a cell that has one alone, from
-- the other cells; and the other values of a cell that is the only one with some value.
use Rattle.std.specs.Prelude.{◌≡◌, ℕ, ◌<◌, ◌≤◌, ◌&&◌, ◌||◌, ◌==◌, ◌⊎◌, bit_and, Bool, true, false, not, nat_lt, List, length, slice_index}
use Rattle.solo_core.specs.Common.{AreDifferent, IsPairing, IsShortSet, has_bit, has_in, strikes_by_fillings, IsDecided, no_repeat}

-- each cell has a value of its own, which its set has
abbrev pub PairsCells : ℕ → List ℕ → List ℕ → Type 0
PairsCells n sets mates = IsPairing (has_in sets) (length sets) n mates

-- of each set those values are kept that some filling without repeat shows
abbrev pub KeepsFillings : ℕ → List ℕ → List ℕ → Type 0
KeepsFillings n sets kept = IsDecided n (strikes_by_fillings no_repeat) sets kept

-- nothing is added, and each pairing of the cells with values is still one
pub record IsPeeled (n : ℕ) (old new : List ℕ) : Type 0 where
  pub as_many : length new ≡ length old
  pub inside : (k v : ℕ) → k < length old → has_in new k v ≡ true → has_in old k v ≡ true
  pub keeps : (mates : List ℕ) → PairsCells n old mates
      → (k : ℕ) → k < length old → has_in new k (slice_index mates k) ≡ true

-- the cell has one value, which no other cell has
pub record IsAlone (n : ℕ) (sets : List ℕ) (cell : ℕ) : Type 0 where
  pub value : ℕ
  pub value_in : value < n
  pub has : has_in sets cell value ≡ true
  pub only : (v : ℕ) → has_in sets cell v ≡ true → v ≡ value
  pub apart : (k : ℕ) → k < length sets → (k ≡ cell → ⊥) → has_in sets k value ≡ false

-- these are cells of the house
abbrev pub AreCellsOf : List ℕ → List ℕ → Type 0
AreCellsOf sets rest = (i : ℕ) → i < length rest → slice_index rest i < length sets

-- each of these cells is
abbrev pub AreAlone : ℕ → List ℕ → (ℕ → Bool) → Type 0
AreAlone n sets cells = (k : ℕ) → k < length sets → cells k ≡ true → IsAlone n sets k

-- whether the cell has one of the values whose bit is set
abbrev pub meets : List ℕ → ℕ → ℕ → Bool
meets sets values cell = not (bit_and (slice_index sets cell) values == 0)

-- the cell is none of these from the i-th on, or none at all
abbrev pub IsPassedCell : List ℕ → ℕ → ℕ → Type 0
IsPassedCell rest i cell = (t : ℕ) → i ≤ t → t < length rest → slice_index rest t ≡ cell → ⊥

abbrev pub IsOutside : List ℕ → ℕ → Type 0
IsOutside rest cell = (t : ℕ) → t < length rest → slice_index rest t ≡ cell → ⊥

-- the rest: different cells of a house, outside which each is alone
pub record IsRest (n : ℕ) (sets rest : List ℕ) : Type 0 where
  pub few : length rest ≤ length sets
  pub within : AreCellsOf sets rest
  pub different : AreDifferent rest
  pub alone : (k : ℕ) → k < length sets → IsOutside rest k → IsAlone n sets k

-- cells outside the rest keep their sets
abbrev pub KeepsOthers : List ℕ → List ℕ → List ℕ → Type 0
KeepsOthers rest old new = (k : ℕ) → IsOutside rest k → slice_index new k ≡ slice_index old k

-- the values whose bit is set are those of cells that are alone: the cells that meet them are, and each is one's
pub record AreLone (n : ℕ) (sets : List ℕ) (lone : ℕ) : Type 0 where
  pub alone : AreAlone n sets (meets sets lone)
  pub held : (v : ℕ) → has_bit lone v ≡ true
      → (k : ℕ) × (k < length sets) × (meets sets lone k ≡ true) × (has_in sets k v ≡ true)

-- each cell outside the rest has one of these values
abbrev pub AreMetOutside : List ℕ → List ℕ → ℕ → Type 0
AreMetOutside sets rest values = (k : ℕ) → k < length sets → IsOutside rest k → meets sets values k ≡ true

-- each cell that meets none of these values has all others
abbrev pub AreWhole : ℕ → List ℕ → ℕ → Type 0
AreWhole n sets lone = (k v : ℕ) → k < length sets → v < n → meets sets lone k ≡ false
    → has_bit lone v ≡ false → has_in sets k v ≡ true

-- whether a cell of the rest has a value; each has a value of its own; and some have fewer values than they are
abbrev pub has_in_rest : List ℕ → List ℕ → ℕ → ℕ → Bool
has_in_rest sets rest l value = has_in sets (slice_index rest l) value

abbrev pub IsPaired : ℕ → List ℕ → List ℕ → List ℕ → Type 0
IsPaired n sets rest mates = IsPairing (has_in_rest sets rest) (length rest) n mates

abbrev pub IsShortRest : ℕ → List ℕ → List ℕ → List ℕ → Type 0
IsShortRest n sets rest short = IsShortSet (has_in_rest sets rest) (length rest) n short

-- the mate of each cell of the rest leads to the cell's values
abbrev pub LeadByMates : List ℕ → List ℕ → List ℕ → List ℕ → Type 0
LeadByMates sets rest mates leads = (i : ℕ) → i < length rest
    → slice_index leads (slice_index mates i) ≡ slice_index sets (slice_index rest i)

-- each cell of the rest keeps the values of what stands at its mate
abbrev pub KeepsParts : List ℕ → List ℕ → List ℕ → List ℕ → List ℕ → Type 0
KeepsParts rest mates parts old new = (i v : ℕ) → i < length rest
    → has_in new (slice_index rest i) v
    ≡ (has_in old (slice_index rest i) v && has_in parts (slice_index mates i) v)

-- the set has the value and no other
abbrev pub IsSingleSet : ℕ → ℕ → Type 0
IsSingleSet set value = (w : ℕ) → has_bit set w ≡ (w == value)

-- of these cells: the values that some have, only such that some have alone, and all that two have
pub record AreValueCounts (sets : List ℕ) (cells : ℕ → Type 0) (some single shared : ℕ) : Type 0 where
  pub has : (j v : ℕ) → cells j → has_in sets j v ≡ true → has_bit some v ≡ true
  pub singles : (v : ℕ) → has_bit single v ≡ true
      → (k : ℕ) × cells k × IsSingleSet (slice_index sets k) v
  pub shares : (j k v : ℕ) → cells j → cells k → (j ≡ k → ⊥) → has_in sets j v ≡ true
      → has_in sets k v ≡ true → has_bit shared v ≡ true

-- whether some cell has the value alone, and no two have it
abbrev pub is_lone : ℕ → ℕ → ℕ → ℕ → Bool
is_lone n single shared v = has_bit single v && (nat_lt v n && not (has_bit shared v))

-- of all cells; and of those outside the rest, none of which has a value of another
abbrev pub AreAllCounts : List ℕ → ℕ → ℕ → ℕ → Type 0
AreAllCounts sets = AreValueCounts sets (λ k. k < length sets)

abbrev pub AreSettledCells : List ℕ → List ℕ → ℕ → Type 0
AreSettledCells sets rest values =
    AreValueCounts sets (λ k. (k < length sets) × IsPassedCell rest 0 k) values values 0

-- the first n cells but the rest have one value each, which no other of them has, and these values are settled
pub record AreSettledBut (values : ℕ) (sets rest : List ℕ) (n settled : ℕ) : Type 0 where
  pub few : length rest ≤ n
  pub within : (t : ℕ) → t < length rest → slice_index rest t < n
  pub different : AreDifferent rest
  pub some : (k : ℕ) → k < n → IsOutside rest k → (v : ℕ) × (has_in sets k v ≡ true)
  pub counts : AreValueCounts sets (λ k. (k < n) × IsPassedCell rest 0 k) settled settled 0
  pub below : (v : ℕ) → has_bit settled v ≡ true → v < values

-- the set has another value, and no other set has that one, or some set has this one alone
abbrev pub IsDropped : ℕ → ℕ → ℕ → ℕ → ℕ → Type 0
IsDropped n single shared set v =
    (w : ℕ) × (w < n) × (has_bit set w ≡ true) × (w ≡ v → ⊥)
    × ((has_bit shared w ≡ false) ⊎ (has_bit single v ≡ true))

-- each value that was dropped from the set is such
abbrev pub AreDropped : ℕ → ℕ → ℕ → ℕ → ℕ → Type 0
AreDropped n single shared set left = (v : ℕ) → v < n → has_bit set v ≡ true
    → has_bit left v ≡ false → IsDropped n single shared set v

-- the counts with one more set: what some set has alone at most, and what several have
abbrev pub AddsSingle : ℕ → ℕ → ℕ → Type 0
AddsSingle old set new =
    (v : ℕ) → has_bit new v ≡ true → (has_bit old v ≡ true) ⊎ IsSingleSet set v

abbrev pub AddsShared : ℕ → ℕ → ℕ → ℕ → Type 0
AddsShared old some set new =
    (v : ℕ) → has_bit new v ≡ (has_bit old v || (has_bit some v && has_bit set v))
