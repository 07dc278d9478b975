-- Which grids solve a puzzle of Light Up, in the words of the manual of Simon Tatham's Portable Puzzle Collection: no bulb
-- stands on a black cell, each numbered black cell has that many bulbs beside it, no bulb sees another, and each white
-- cell holds a bulb or sees one.
use Rattle.std.specs.Prelude.{◌≡◌, ◌≢◌, ℕ, ◌/◌, ◌%◌, ◌<◌, ◌≤◌, ◌⊎◌, true, List, slice_index_or}
use Rattle.fields_core.specs.Below.{Black, IsGrid, Light, Numbered}
use Rattle.fields_core.specs.Light.{light_cells, white, bulb, bulbs_beside}

-- the row and the column of a cell
abbrev pub light_row : Light → ℕ → ℕ
light_row p c = c / p.size.w

abbrev pub light_column : Light → ℕ → ℕ
light_column p c = c % p.size.w

-- one of two places, or one between them
abbrev pub IsFromTo : ℕ → ℕ → ℕ → Type 0
IsFromTo a b c = ((a ≤ c) × (c ≤ b)) ⊎ ((b ≤ c) × (c ≤ a))

-- two cells of one line, a row or a column, that are white, and so is each cell of the line between them
pub record AreJoined (p : Light) (line : ℕ → ℕ) (a b : ℕ) : Type 0 where
  pub same_line : line a ≡ line b
  pub all_white : (c : ℕ) → line c ≡ line a → IsFromTo a b c → white p c ≡ true

-- different white cells of one row or one column with only white cells between them
abbrev pub Sees : Light → ℕ → ℕ → Type 0
Sees p a b = (a ≢ b) × (AreJoined p (light_row p) a b ⊎ AreJoined p (light_column p) a b)

-- the cell sees a bulb
pub record SeesBulb (p : Light) (g : List ℕ) (c : ℕ) : Type 0 where
  pub other : ℕ
  pub within : other < light_cells p
  pub has_bulb : bulb g other ≡ true
  pub seen : Sees p c other

pub record IsLightSolution (p : Light) (g : List ℕ) : Type 0 where
  pub grid : IsGrid (light_cells p) 2 g
  pub none_on_black : (c : ℕ) → c < light_cells p → bulb g c ≡ true → white p c ≡ true
  pub numbers : (c n : ℕ) → c < light_cells p → slice_index_or p.cells c Black ≡ Numbered n
      → bulbs_beside p g c ≡ n
  pub none_seen : (c d : ℕ) → c < light_cells p → d < light_cells p
      → bulb g c ≡ true → bulb g d ≡ true → Sees p c d → ⊥
  pub all_lit : (c : ℕ) → c < light_cells p → white p c ≡ true → (bulb g c ≡ true) ⊎ SeesBulb p g c
