-- The trees and the squares of a row of Tents.
use Rattle.std.specs.Prelude.{Bool, List, [], count_by, false, nat_lt, not, true, ℕ, ◌&&◌, ◌*◌, ◌+◌, ◌-◌, ◌<◌, ◌∷◌, ◌≡◌, ◌≤◌}
use Rattle.fields_core.specs.Below.{Candidates, Extent, Layers, Row, Tents, any_below, beside, planes_have, has_bit, has_place, list_any}
use Rattle.fields_core.specs.CountHouse.{CountHouse, houses_below}
use Rattle.fields_core.specs.LineWords.{IsRowIn, IsRowOf}
use Rattle.fields_core.specs.TentHouses.{square_house, tree_house}
use Rattle.fields_core.specs.Tents.{tree}
use Rattle.fields_core.specs.declared.planes.tents.three_rows.ThreeRows.{ThreeRows}
use Rattle.fields_core.specs.Visits.{without_zeros}
use Rattle.fields_core.specs.Parts.{Piece}

-- The trees of a row of Tents, and words of the cells beside them.

-- the houses of the trees of a row
abbrev pub trees_of_row : Tents → ℕ → List CountHouse
trees_of_row p y = houses_below (λ x. tree_house p (y * p.size.w + x)) p.size.w

-- the cell has a tree, and a cell without one is beside it
unfoldable pub wants_tent : Tents → ℕ → Bool
wants_tent p c = tree p c && list_any (λ d. not (tree p d)) (beside p.size c)

-- no cell with a tree can have a tent
abbrev pub AreBare : Tents → Candidates → Type 0
AreBare p K = (c : ℕ) → tree p c ≡ true → K c 1 ≡ false

-- the words have the cells that pass of a row, of the row above and of the one below, where there are such rows
pub record IsNear {W : Type 0} (bits : W → ℕ) (size : Extent) (passes : ℕ → Bool) (y : ℕ)
    (near : ThreeRows W)
    : Type 0 where
  pub above : (x : ℕ) → has_bit (bits near.above) x
      ≡ (nat_lt x size.w && (nat_lt 0 y && passes ((y - 1) * size.w + x)))
  pub own : IsRowOf size.w passes y (bits near.own)
  pub below : IsRowIn size passes (y + 1) (bits near.below)

-- the word has the places that as many such cells are beside as fit, in whatever row these words have
abbrev pub AreBeside : {W : Type 0} → (W → ℕ) → ℕ → ThreeRows W → (ℕ → Bool) → W → Type 0
AreBeside bits room near fits word = (size : Extent) (passes : ℕ → Bool) (y x : ℕ)
    → size.w ≤ room → x < size.w → IsNear bits size passes y near
    → has_bit (bits word) x ≡ fits (count_by passes (beside size (y * size.w + x)))

-- whether the cell is beside one of the first n cells of a row, of those at these places
unfoldable pub is_beside : Extent → ℕ → (ℕ → Bool) → ℕ → ℕ → Bool
is_beside size y places n c =
    any_below (λ x. places x && has_place (beside size (y * size.w + x)) c) n

-- 0 was taken from the cells that pass beside these places of the row
abbrev pub AreTakenBeside : {W : Type 0} → (W → ℕ) → ThreeRows W → W → ℕ → Layers → Layers → Type 0
AreTakenBeside bits near places y from to = (passes : ℕ → Bool)
    → IsNear bits from.size passes y near
    → ((x : ℕ) → has_bit (bits places) x ≡ true → x < from.size.w)
    → planes_have to ≡ without_zeros (λ c. passes c
    && is_beside from.size y (has_bit (bits places)) from.size.w c) (planes_have from)

-- The squares of two rows of Tents.

-- the houses of the squares whose upper row is y
abbrev pub squares_of_row : Tents → ℕ → List CountHouse
squares_of_row p y = houses_below (λ x. square_house p (y * p.size.w + x)) p.size.w

-- these places of a row and of the row below
abbrev pub two_rows : ℕ → ℕ → List Piece
two_rows y places = record { line = Row y; bits = places } ∷ record { line = Row (y + 1); bits = places } ∷ []
