-- Cells of rows and of columns as words of bits.
use Rattle.std.specs.Prelude.{◌≡◌, ℕ, ◌+◌, ◌-◌, ◌*◌, ◌<◌, ◌≤◌, Bool, ◌&&◌, ◌||◌, nat_lt, List, length, slice_index}
use Rattle.fields_core.specs.Below.{Extent, has_bit}

-- the word has those cells of the row that pass
abbrev pub IsRowOf : ℕ → (ℕ → Bool) → ℕ → ℕ → Type 0
IsRowOf w passes y bits = (x : ℕ) → has_bit bits x ≡ (nat_lt x w && passes (y * w + x))

-- the same where there may be no such row: it has none then
abbrev pub IsRowIn : Extent → (ℕ → Bool) → ℕ → ℕ → Type 0
IsRowIn size passes y bits = (x : ℕ)
    → has_bit bits x ≡ (nat_lt x size.w && (nat_lt y size.h && passes (y * size.w + x)))

-- of these words each row has one
pub record AreRowsOf (size : Extent) (passes : ℕ → Bool) (words : List ℕ) : Type 0 where
  pub long : size.h ≤ length words
  pub each : (y : ℕ) → y < size.h → IsRowOf size.w passes y (slice_index words y)

-- the word has those cells of the column that pass
abbrev pub IsColumnOf : Extent → (ℕ → Bool) → ℕ → ℕ → Type 0
IsColumnOf size passes x bits =
    (y : ℕ) → has_bit bits y ≡ (nat_lt y size.h && passes (y * size.w + x))

-- of these words each column has one
pub record AreColumnsOf (size : Extent) (passes : ℕ → Bool) (words : List ℕ) : Type 0 where
  pub long : size.w ≤ length words
  pub each : (x : ℕ) → x < size.w → IsColumnOf size passes x (slice_index words x)

-- what waited, and these lines with those beside them
abbrev pub AreSpread : {W : Type 0} → (W → ℕ) → ℕ → W → (ℕ → Bool) → W → Type 0
AreSpread bits room before lines now = (k : ℕ) → has_bit (bits now) k
    ≡ (has_bit (bits before) k || (((nat_lt k room && (nat_lt 0 k && lines (k - 1)))
    || lines k) || lines (k + 1)))
