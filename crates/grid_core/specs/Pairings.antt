-- Pairings of lefts with rights, over a test that says which are joined.
use Rattle.std.specs.Prelude.{◌≡◌, ℕ, ◌<◌, ◌≤◌, Bool, IsTrue, List, Option, MatchOption, length, slice_index, count_by, All}
use Rattle.std.specs.List.{list_any, range_with_len}
use Rattle.std.specs.List.Sorted.{IsStrictlyIncreasing}

-- the answer is the least number from `from` on, and below n, that is joined; or none is
abbrev pub IsNextJoined : (ℕ → Bool) → ℕ → ℕ → Option ℕ → Type 0
IsNextJoined is_joined from n next = MatchOption next
    ((r : ℕ) → from ≤ r → r < n → IsTrue (is_joined r) → ⊥)
    (λ r. (from ≤ r) × (r < n) × IsTrue (is_joined r)
    × ((q : ℕ) → from ≤ q → q < r → IsTrue (is_joined q) → ⊥))

-- each of the first `lefts` lefts has a joined right of its own, its mate
pub record IsPairing (joins : ℕ → ℕ → Bool) (lefts rights : ℕ)
    (mates : List ℕ) : Type 0 where
  pub len : length mates ≡ lefts
  pub in_range : (l : ℕ) → l < lefts → slice_index mates l < rights
  pub joined : (l : ℕ) → l < lefts → IsTrue (joins l (slice_index mates l))
  pub own : (l m : ℕ) → l < lefts → m < lefts
      → slice_index mates l ≡ slice_index mates m → l ≡ m

-- how many rights are joined to one of the lefts
abbrev pub joined_count : (ℕ → ℕ → Bool) → ℕ → List ℕ → ℕ
joined_count joins rights xs =
    count_by (λ r. list_any (λ l. joins l r) xs) (range_with_len 0 rights)

-- different lefts, ascending, which are more than the rights that are joined to one of them
pub record IsShortSet (joins : ℕ → ℕ → Bool) (lefts rights : ℕ)
    (xs : List ℕ) : Type 0 where
  pub ascending : IsStrictlyIncreasing xs
  pub in_range : All (λ l. l < lefts) xs
  pub fewer : joined_count joins rights xs < length xs

-- what contracts see of a `Pairing`: how many lefts and rights it has room for,
-- the mates that the last run gave the lefts (none where it did not pair all),
-- and the lefts that it showed to be short of rights (none where it did not)
pub record PairingView : Type 0 where
  pub room : ℕ
  pub mates : List ℕ
  pub short : List ℕ
