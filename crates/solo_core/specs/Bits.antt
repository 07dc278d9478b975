-- Sets of values as bits, and what a visit reads of those of a house.
use Rattle.std.specs.Prelude.{◌≡◌, ℕ, ◌<◌, ◌≤◌, Bool, true, List, map, slice_index}
use Rattle.engine_core.specs.Filling.{strikes_by_fillings}
use Rattle.engine_core.specs.Sets.{has_bit, set_of_bits}
use Rattle.solo_core.specs.Houses.{no_repeat}

-- no bit from the first number on, below the second, is set
abbrev pub NoneIsSet : ℕ → ℕ → ℕ → Type 0
NoneIsSet bits from end = (v : ℕ) → from ≤ v → v < end → has_bit bits v ≡ true → ⊥

-- it is the first of these that is set
abbrev pub IsFirstSet : ℕ → ℕ → ℕ → ℕ → Type 0
IsFirstSet bits from end v =
    (from ≤ v) × (v < end) × (has_bit bits v ≡ true) × NoneIsSet bits from v

-- it is one of 32 bits, and set
abbrev pub IsSmallBit : ℕ → ℕ → Type 0
IsSmallBit bits v = (v < 32) × (has_bit bits v ≡ true)

-- whether no filling without repeat has the value in the place
abbrev pub is_struck : ℕ → List ℕ → ℕ → ℕ → Bool
is_struck values sets place value =
    strikes_by_fillings no_repeat (map (set_of_bits values) sets) place value

-- whether a cell has a value, by its bits
abbrev pub has_in : List ℕ → ℕ → ℕ → Bool
has_in sets place value = has_bit (slice_index sets place) value
