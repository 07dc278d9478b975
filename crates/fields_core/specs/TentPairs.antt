-- Tents and trees as two sides to be paired, each numbered by place.
use Rattle.std.specs.Prelude.{◌≡◌, ℕ, ◌<◌, ◌≤◌, Bool, List, filter, length, slice_index}
use Rattle.fields_core.specs.Below.{AreBelow, Tents, beside, count_below, has_place, range_with_len}
use Rattle.fields_core.specs.Tents.{tent, tent_cells, tree}
use Rattle.fields_core.specs.declared.tents.pairs.PairingScratch.{PairingScratch}

-- the places of the trees, ascending, and how many there are
abbrev pub trees_of : Tents → List ℕ
trees_of p = filter (tree p) (range_with_len 0 (tent_cells p))

-- those of the tents
abbrev pub tent_places : Tents → List ℕ → List ℕ
tent_places p g = filter (tent g) (range_with_len 0 (tent_cells p))

abbrev pub tree_count : Tents → ℕ
tree_count p = count_below (tree p) (tent_cells p)

-- the tree of this number is beside the cell
abbrev pub tree_beside : Tents → ℕ → ℕ → Bool
tree_beside p c r = has_place (beside p.size c) (slice_index (trees_of p) r)

-- a tent, by its number in the list, is joined to the trees beside it
unfoldable pub may_pair : Tents → List ℕ → ℕ → ℕ → Bool
may_pair p tents l r = tree_beside p (slice_index tents l) r

-- cells of the puzzle
abbrev pub AreIn : Tents → List ℕ → Type 0
AreIn p = AreBelow (tent_cells p)

-- for each cell, how many trees stand before it
pub record AreNumbered (p : Tents) (numbers : List ℕ) : Type 0 where
  pub long : tent_cells p ≤ length numbers
  pub each : (c : ℕ) → c < tent_cells p → slice_index numbers c ≡ count_below (tree p) c

-- there is room for so many tents, trees and cells
pub record HasPairingRoom (scratch : PairingScratch) (n : ℕ) : Type 0 where
  pub pairing : n ≤ scratch.pairing.room
  pub tents : n ≤ length scratch.tents.items
  pub numbers : n ≤ length scratch.numbers.items
