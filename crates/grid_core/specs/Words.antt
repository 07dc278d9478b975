-- Sets of places as the bits of a word.
use Rattle.std.specs.Prelude.{◌≡◌, ℕ, ◌-◌, ◌<◌, nat_lt, Bool, true, false, not, ◌&&◌, ◌==◌, if◌then◌else◌}
use Rattle.std.specs.Int.{bit_at}

-- whether bit p is set
abbrev pub has_bit : ℕ → ℕ → Bool
has_bit bits p = bit_at bits p == 1

-- the places of the bits are those that pass
abbrev pub AreBits : ℕ → (ℕ → Bool) → Type 0
AreBits bits passes = (p : ℕ) → has_bit bits p ≡ passes p

-- the place before is one of the bits, and the place is below n
abbrev pub moved_on : ℕ → ℕ → ℕ → Bool
moved_on n bits p = nat_lt p n && (nat_lt 0 p && has_bit bits (p - 1))

-- just one of the two
unfoldable pub differ : Bool → Bool → Bool
differ a b = if b then not a else a

-- the least number below n that passes
pub record IsLeast (passes : ℕ → Bool) (n least : ℕ) : Type 0 where
  pub within : least < n
  pub has : passes least ≡ true
  pub before : (p : ℕ) → p < least → passes p ≡ false

-- the places but the lowest of those below n
abbrev pub IsWithoutLowest : ℕ → ℕ → ℕ → Type 0
IsWithoutLowest n bits left = (least p : ℕ) → IsLeast (has_bit bits) n least
    → has_bit left p ≡ (has_bit bits p && not (p == least))
