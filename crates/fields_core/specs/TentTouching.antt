-- Tents among the cells near a cell. No public contract uses these words.
use Rattle.std.specs.Prelude.{◌≡◌, ℕ, ◌+◌, ◌*◌, ◌%◌, ◌<◌, ◌≤◌, ◌⊎◌, Bool, true, false, List}
use Rattle.fields_core.specs.Below.{Candidates, Extent}
use Rattle.fields_core.specs.Tents.{tent, touches}

-- whether a cell but the place has a tent, of those from one cell to before another
pub record IsTentAmong (g : List ℕ) (place from end : ℕ) (found : Bool) : Type 0 where
  pub some : found ≡ true
      → (d : ℕ) × (from ≤ d) × (d < end) × (d ≡ place → ⊥) × (tent g d ≡ true)
  pub none : found ≡ false → (d : ℕ) → from ≤ d → d < end → (d ≡ place → ⊥)
      → tent g d ≡ false

-- from the first to before the end are the cells of a cell's row that are no further from it than
-- one column
pub record IsWindow (w a first end : ℕ) : Type 0 where
  pub left : ((0 < a % w) × (first + 1 ≡ a)) ⊎ ((a % w ≡ 0) × (first ≡ a))
  pub right : ((a % w + 1 < w) × (end ≡ a + 2)) ⊎ ((w ≤ a % w + 1) × (end ≡ a + 1))

-- two cells that touch have no 0: both must have a tent
pub record HasTouching (size : Extent) (K : Candidates) : Type 0 where
  pub first : ℕ
  pub second : ℕ
  pub first_in : first < size.w * size.h
  pub second_in : second < size.w * size.h
  pub touch : touches size first second ≡ true
  pub first_must : K first 0 ≡ false
  pub second_must : K second 0 ≡ false
