-- Count houses as they are told by few numbers.
use Rattle.std.specs.Prelude.{◌≡◌, ℕ, ◌+◌, ◌*◌, ◌<◌, Bool, true, if◌then◌else◌, List, [], ◌∷◌, filter, length, map, max, slice_index_or}
use Rattle.fields_core.specs.Below.{Extent, concat, range_with_len}
use Rattle.fields_core.specs.CountHouse.{CountHouse, count_house_of, houses_below}
use Rattle.fields_core.specs.declared.count.house.Bounds.{Bounds}
use Rattle.fields_core.specs.declared.count.house.House.{House}
use Rattle.fields_core.specs.declared.count.name.HouseName.{HouseName}
use Rattle.fields_core.specs.declared.count.name.Measured.{Measured}
use Rattle.fields_core.specs.declared.count.house.Segment.{Segment}

-- the cells of a segment, and of several
abbrev pub segment_places : Segment → List ℕ
segment_places s = map (λ k. s.first + k * s.stride) (range_with_len 0 s.len)

abbrev pub places_in_segments : List Segment → List ℕ
places_in_segments segments = concat (map segment_places segments)

-- the house that is told
abbrev pub house_told : House → CountHouse
house_told house = record {
  places = places_in_segments house.cells;
  least = house.bounds.least;
  most = house.bounds.most;
}

-- the bounds of a house
abbrev pub bounds_of : CountHouse → Bounds
bounds_of house = record { least = house.least; most = house.most }

-- the house that a name tells, by its kind and its place or line
abbrev pub named : {K : Type 0} → (K → ℕ → List CountHouse) → HouseName K → List CountHouse
named told name = told name.kind name.place

-- each of the names tells the house of its number
abbrev pub AreNamed : {K : Type 0} → (K → ℕ → List CountHouse) → List (HouseName K)
    → List CountHouse → Type 0
AreNamed {K} told names houses = (h : ℕ) (name : HouseName K) → h < length names
    → named told (slice_index_or names h name) ≡ count_house_of houses h ∷ []

-- the houses of the first n kinds, each by place or line
abbrev pub houses_of_kinds : {K : Type 0} → (K → ℕ → List CountHouse) → (K → ℕ) → (ℕ → K) → ℕ
    → List CountHouse
houses_of_kinds told places kind_of n =
    houses_below (λ number. houses_below (told (kind_of number)) (places (kind_of number))) n

-- how many cells the longest of some houses has
abbrev pub longest_of : List CountHouse → ℕ
longest_of [] = 0
longest_of (house ∷ houses) = max (length house.places) (longest_of houses)

-- how many houses there are, and how long the longest is
pub record IsMeasured (houses : List CountHouse) (m : Measured) : Type 0 where
  pub houses_are : m.houses ≡ length houses
  pub longest_is : m.longest ≡ longest_of houses

-- these houses were counted too
pub record AddsHouses (houses : List CountHouse) (old new : Measured) : Type 0 where
  pub houses_are : new.houses ≡ old.houses + length houses
  pub longest_is : new.longest ≡ max old.longest (longest_of houses)

-- calls at numbers below n answer as the test does
abbrev pub TestsBelow : (ℕ → Bool → Type 0) → (ℕ → Bool) → ℕ → Type 0
TestsBelow answers test n = (c : ℕ) (answer : Bool) → c < n → answers c answer → answer ≡ test c

-- of some places of a grid those at which calls say yes, and how many there are
abbrev pub ArePassing : (ℕ → Bool → Type 0) → Extent → List ℕ → List ℕ → Type 0
ArePassing answers size places passing = (test : ℕ → Bool)
    → TestsBelow answers test (size.w * size.h) → passing ≡ filter test places

abbrev pub CountsPassing : (ℕ → Bool → Type 0) → Extent → List ℕ → ℕ → Type 0
CountsPassing answers size places count = (test : ℕ → Bool)
    → TestsBelow answers test (size.w * size.h) → count ≡ length (filter test places)

-- 1 if the place is there and calls at it say yes, and else 0
abbrev pub IsCountIf : (ℕ → Bool → Type 0) → Bool → ℕ → ℕ → Type 0
IsCountIf answers there place count = (test : ℕ → Bool)
    → (there ≡ true → (answer : Bool) → answers place answer → answer ≡ test place)
    → count ≡ length (filter test (if there then place ∷ [] else []))
