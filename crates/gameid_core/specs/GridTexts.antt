-- Printed grids: their texts, and grids that are read from these.
use Rattle.std.specs.Prelude.{List, None, Option, Some, String, [], codes, slice_index, string_bytes, suc, zero, ℕ, ◌%◌, ◌*◌, ◌++◌, ◌+◌, ◌<◌, ◌≡◌, ◌⊎◌}
use Rattle.grid_core.specs.Extent.{Extent}
use Rattle.grid_core.specs.Grids.{IsGrid}

-- What is added at the end of a text.
abbrev pub Adds : {Z : Type 0} → List ℕ → String Z → String Z → Type 0
Adds more old new = string_bytes new ≡ string_bytes old ++ more

-- Printed grids, by what is printed of each place.

-- the texts of 0, 1, .., n - 1, one after the other
unfoldable pub each_below : (ℕ → List ℕ) → ℕ → List ℕ
each_below text zero = []
each_below text (suc n) = each_below text n ++ text n

-- a row from the left, and its line end
abbrev pub row_text : (ℕ → List ℕ) → Extent → ℕ → List ℕ
row_text cell size y = each_below (λ x. cell (y * size.w + x)) size.w ++ codes "\n"

-- the rows from the top, where each place has this text
abbrev pub grid_text : (ℕ → List ℕ) → Extent → List ℕ
grid_text cell size = each_below (row_text cell size) size.h

-- Grids read from what is printed of them.
-- A grid that holds 0 wherever what is printed shows nothing of the number.
pub record IsAsShown (hides : ℕ → Type 0) (values : ℕ) (size : Extent) (g : List ℕ) : Type 0 where
  pub grid : IsGrid (size.w * size.h) values g
  pub hidden : (place : ℕ) → hides place → slice_index g place ≡ 0

-- all is shown
abbrev pub hides_nothing : ℕ → Type 0
hides_nothing place = ⊥

-- The one grid of which this is so; or there is none.
abbrev pub IsReadOf : (ℕ → Type 0) → ℕ → Extent → (List ℕ → Type 0) → Option (List ℕ) → Type 0
IsReadOf hides values size is None = (g : List ℕ) → IsAsShown hides values size g → is g → ⊥
IsReadOf hides values size is (Some g) =
    IsAsShown hides values size g × is g
    × ((h : List ℕ) → IsAsShown hides values size h → is h → g ≡ h)

-- what may stand after what is printed of a cell: a line end, or the next cell of the row
abbrev pub Follows : (ℕ → List ℕ) → Extent → ℕ → List ℕ → Type 0
Follows cell size place after = ((rest : List ℕ) × (after ≡ codes "\n" ++ rest))
    ⊎ (((place + 1) % size.w ≡ 0 → ⊥) × ((rest : List ℕ) × (after ≡ cell (place + 1) ++ rest)))

-- the text is that printed form, with or without its last line end
abbrev pub IsPrinted : List ℕ → List ℕ → Type 0
IsPrinted text printed = (text ≡ printed) ⊎ (text ++ codes "\n" ≡ printed)

-- the first n numbers of the grid are below `values`, and 0 where they aren't shown
abbrev pub FitUpTo : (ℕ → Type 0) → ℕ → List ℕ → ℕ → Type 0
FitUpTo hides values g n =
    (place : ℕ) → place < n
    → (slice_index g place < values) × (hides place → slice_index g place ≡ 0)

-- the first n numbers of the grids are the same
abbrev pub AgreeUpTo : List ℕ → List ℕ → ℕ → Type 0
AgreeUpTo g h n = (place : ℕ) → place < n → slice_index g place ≡ slice_index h place
