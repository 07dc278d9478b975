-- How the lists of houses grow.
use Rattle.std.specs.Prelude.{◌%◌, ◌*◌, ◌++◌, ◌+◌, ◌/◌, ◌<◌, ◌∷◌, ◌≡◌, List, [], slice_index, ℕ}
use Rattle.gameid_core.specs.Puzzles.{Solo, solo_n}
use Rattle.engine_core.specs.HouseList.{Listed}

-- these lists of places, closed, and none begun
abbrev pub closed_lists : List (List ℕ) → Listed
closed_lists all = record { closed = all; begun = [] }

-- the list with more closed lists of places, and none begun
abbrev pub HasAdded : List (List ℕ) → Listed → Listed → Type 0
HasAdded more old new = new ≡ closed_lists (old.closed ++ more)

-- the list with more places of the begun one
abbrev pub HasBegun : List ℕ → Listed → Listed → Type 0
HasBegun more old new = new ≡ record { closed = old.closed; begun = old.begun ++ more }

-- the list with one more closed list of places, and none begun
abbrev pub HasClosed : List ℕ → Listed → Listed → Type 0
HasClosed places = HasAdded (places ∷ [])

-- the place of a block's k-th cell
abbrev pub block_cell : ℕ → ℕ → ℕ → ℕ → ℕ
block_cell c r b k = ((b / c) * c + k / r) * (c * r) + ((b % c) * r + k % r)

-- the places of the rows, after them the first m of the columns, and where those end the first m of the blocks
pub record HasHouses (p : Solo) (m : ℕ) (all : List ℕ) : Type 0 where
  pub rows : (j : ℕ) → j < solo_n p * solo_n p → slice_index all j ≡ j
  pub columns : (j : ℕ) → j < m → slice_index all (solo_n p * solo_n p + j) ≡ j % solo_n p * solo_n p + j / solo_n p
  pub blocks : (j : ℕ) → j < m
      → slice_index all (solo_n p * solo_n p + (solo_n p * solo_n p + j)) ≡ block_cell p.c p.r (j / solo_n p) (j % solo_n p)
