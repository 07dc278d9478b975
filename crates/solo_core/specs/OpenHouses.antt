-- Which cells and which values of a house are open: what a position keeps, so that a visit need not look at the others.
use Rattle.std.specs.Prelude.{◌≡◌, ℕ, ◌<◌, ◌==◌, Bool, true, false, List, length, slice_index}
use Rattle.solo_core.specs.Common.{Candidates, IsBitsOf, has_bit}
use Rattle.engine_core.specs.HouseSets.{AreBitsAt}
use Rattle.solo_core.specs.PeeledHouses.{IsOutside, IsSingleSet, KeepsFillings}
use Rattle.solo_core.specs.declared.visits.open.OpenHouse.{OpenHouse}

-- the k-th cell has the value v and no other
abbrev pub HasAlone : (ℕ → ℕ → Bool) → ℕ → ℕ → Type 0
HasAlone has k v = (w : ℕ) → has k w ≡ (w == v)

-- a cell that isn't open has one value, and that isn't open
pub record IsClosedCell (has : ℕ → ℕ → Bool) (n values k : ℕ) : Type 0 where
  pub value : ℕ
  pub value_in : value < n
  pub not_open : has_bit values value ≡ false
  pub alone : HasAlone has k value

-- Of a house with n cells and n values, `has` says which cell has which value, bit k of `cells` that its k-th cell is open, and
-- bit v of `values` that the value v is. Cells that aren't open have one value each, different ones, and the open values are all
-- others. So as many values as cells are open. An open cell may have any values, or none.
pub record IsOpenOf (has : ℕ → ℕ → Bool) (n cells values : ℕ) : Type 0 where
  pub cells_in : (k : ℕ) → has_bit cells k ≡ true → k < n
  pub values_in : (v : ℕ) → has_bit values v ≡ true → v < n
  pub closed : (k : ℕ) → k < n → has_bit cells k ≡ false → IsClosedCell has n values k
  pub different : (j k v : ℕ) → j < n → k < n → has_bit cells j ≡ false
      → has_bit cells k ≡ false → has j v ≡ true → has k v ≡ true → j ≡ k
  pub held : (v : ℕ) → v < n → has_bit values v ≡ false
      → (k : ℕ) × (k < n) × (has_bit cells k ≡ false) × (has k v ≡ true)

abbrev pub IsOpenHouse : (ℕ → ℕ → Bool) → ℕ → OpenHouse → Type 0
IsOpenHouse has n house = IsOpenOf has n house.cells house.values

-- the house after its cell, which has the set's one value, was closed or put back
abbrev pub StaysOpenWith : ℕ → ℕ → OpenHouse → OpenHouse → Type 0
StaysOpenWith cell set old new =
    (has : ℕ → ℕ → Bool) (n value : ℕ) → IsOpenHouse has n old → cell < n → value < n
    → IsSingleSet set value → HasAlone has cell value → IsOpenHouse has n new

-- the list has the numbers whose bit is set, and they rise
pub record ListsBits (bits : ℕ) (list : List ℕ) : Type 0 where
  pub set : (t : ℕ) → t < length list → has_bit bits (slice_index list t) ≡ true
  pub rising : (t u : ℕ) → t < u → u < length list → slice_index list t < slice_index list u
  pub all : (k : ℕ) → has_bit bits k ≡ true
      → (t : ℕ) × (t < length list) × (slice_index list t ≡ k)

-- the same of the numbers below `from`
pub record ListsBitsBelow (bits from : ℕ) (list : List ℕ) : Type 0 where
  pub set : (t : ℕ) → t < length list → has_bit bits (slice_index list t) ≡ true
  pub below : (t : ℕ) → t < length list → slice_index list t < from
  pub rising : (t u : ℕ) → t < u → u < length list → slice_index list t < slice_index list u
  pub all : (k : ℕ) → has_bit bits k ≡ true → k < from
      → (t : ℕ) × (t < length list) × (slice_index list t ≡ k)

-- of the cells that the list doesn't number, by their places, the sets are kept whole
abbrev pub AreWholeOutside : ℕ → Candidates → List ℕ → List ℕ → List ℕ → Type 0
AreWholeOutside values K places list kept = (k : ℕ) → k < length places
    → IsOutside list k → IsBitsOf (K (slice_index places k)) values (slice_index kept k)

-- of the sets of the house's cells, those values are kept that some filling without repeat shows
pub record IsVisitedOpen (values : ℕ) (K : Candidates) (places kept : List ℕ) : Type 0 where
  pub sets : List ℕ
  pub as_many : length sets ≡ length places
  pub bits : AreBitsAt values places K sets
  pub left : KeepsFillings values sets kept
