-- Count houses as parts of lines of planes.
use Rattle.std.specs.Prelude.{◌≡◌, ℕ, ◌-◌, ◌*◌, ◌/◌, ◌%◌, ◌<◌, Bool, true, false, not, ◌&&◌, ◌==◌, ◌⊎◌, List, None, Option, Some, [], ◌∷◌, length, slice_index_or}
use Rattle.fields_core.specs.Below.{Candidates, Extent, Layers, Line, Row, any_below, plane_cells, count_below, crosses, planes_have, has_place, lines_beside, number_of}
use Rattle.fields_core.specs.Count.{is_open}
use Rattle.fields_core.specs.CountHouse.{CountHouse, IsHouse, after_house}
use Rattle.fields_core.specs.declared.planes.visit.Part.{Part}
use Rattle.fields_core.specs.declared.planes.visit.Parts.{Parts}

-- some places of a line, as bits
pub record Piece : Type 0 where
  pub line : Line
  pub bits : ℕ

abbrev pub piece_of : {W : Type 0} → (W → ℕ) → Part W → Piece
piece_of bits part = record { line = part.line; bits = bits part.cells }

abbrev pub second_piece_of : {W : Type 0} → (W → ℕ) → Option (Part W) → List Piece
second_piece_of bits None = []
second_piece_of bits (Some part) = piece_of bits part ∷ []

abbrev pub pieces_of : {W : Type 0} → (W → ℕ) → Parts W → List Piece
pieces_of bits parts = piece_of bits parts.first ∷ second_piece_of bits parts.second

abbrev pub piece_at : List Piece → ℕ → Piece
piece_at pieces k = slice_index_or pieces k (record { line = Row 0; bits = 0 })

-- whether the cell is at one of its places, in a grid of so many columns
unfoldable pub lies_in : ℕ → Piece → ℕ → Bool
lies_in w piece c = crosses piece.line piece.bits (c / w) (c % w)

-- whether it is in one of the first n
unfoldable pub lies_in_first : ℕ → List Piece → ℕ → ℕ → Bool
lies_in_first w pieces n c = any_below (λ k. lies_in w (piece_at pieces k) c) n

-- pieces of lines of the grid, no two of which have a cell together
pub record ArePieces (size : Extent) (pieces : List Piece) : Type 0 where
  pub lines_in : (k : ℕ) → k < length pieces
      → number_of (piece_at pieces k).line < lines_beside size (piece_at pieces k).line
  pub apart : (j k c : ℕ) → j < length pieces → k < length pieces
      → lies_in size.w (piece_at pieces j) c ≡ true
      → lies_in size.w (piece_at pieces k) c ≡ true → j ≡ k

-- of the cells of the first n pieces so many can have 1, and so many of these are undecided
pub record IsCount (p : Layers) (pieces : List Piece) (n may undecided : ℕ) : Type 0 where
  pub may_is : may
      ≡ count_below (λ c. lies_in_first p.size.w pieces n c && planes_have p c 1) (plane_cells p)
  pub undecided_is : undecided
      ≡ count_below (λ c. lies_in_first p.size.w pieces n c && is_open (planes_have p) c) (plane_cells p)

abbrev pub ArePartsCounted : Layers → List Piece → ℕ → ℕ → Type 0
ArePartsCounted p pieces may undecided = IsCount p pieces (length pieces) may undecided

-- a count house of the cells of these pieces
pub record IsHouseOfPieces (size : Extent) (pieces : List Piece) (least most : ℕ) (house : CountHouse)
    : Type 0 where
  pub is : IsHouse (size.w * size.h) house
  pub least_is : house.least ≡ least
  pub most_is : house.most ≡ most
  pub cells : (c : ℕ) → has_place house.places c ≡ lies_in_first size.w pieces (length pieces) c

-- each cell has a value
abbrev pub ArePlanesAlive : Layers → Type 0
ArePlanesAlive p = (c : ℕ) → c < plane_cells p → (planes_have p c 0 ≡ true) ⊎ (planes_have p c 1 ≡ true)

-- a visit leaves no value in the house's cells
abbrev pub IsBroken : CountHouse → Candidates → Type 0
IsBroken house K = (c v : ℕ) → has_place house.places c ≡ true → v < 2
    → after_house house K c v ≡ false

-- of any house of these cells and bounds: a visit leaves that board, or no value in its cells
abbrev pub IsHouseLeft : List Piece → ℕ → ℕ → Layers → Layers → Type 0
IsHouseLeft pieces least most from to = (house : CountHouse)
    → IsHouseOfPieces from.size pieces least most house → planes_have to ≡ after_house house (planes_have from)

abbrev pub IsHouseBroken : List Piece → ℕ → ℕ → Layers → Type 0
IsHouseBroken pieces least most from = (house : CountHouse)
    → IsHouseOfPieces from.size pieces least most house → IsBroken house (planes_have from)

-- the board without the value in the cells of the first n pieces that have the other value
unfoldable pub without_value : ℕ → List Piece → ℕ → ℕ → Candidates → Candidates
without_value w pieces n value K c v =
    K c v && not ((v == value) && (K c (1 - value) && lies_in_first w pieces n c))

-- it was taken from the cells of all of the pieces that have the other value
abbrev pub IsStruck : List Piece → ℕ → Layers → Layers → Type 0
IsStruck pieces value from to =
    planes_have to ≡ without_value from.size.w pieces (length pieces) value (planes_have from)
