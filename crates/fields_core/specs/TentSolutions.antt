-- Which grids solve a puzzle of Tents, and what is wrong with the others.
use Rattle.std.specs.Prelude.{List, Option, [], false, slice_index, true, ℕ, ◌+◌, ◌<◌, ◌∷◌, ◌≡◌, ◌≢◌}
use Rattle.fields_core.specs.Below.{IsAnswerOfCheck, IsGrid, Tents, beside, has_place, tests_of}
use Rattle.fields_core.specs.Tents.{tent, tent_cells, tents_in_column, tents_in_row, touches, tree}
use Rattle.fields_core.specs.declared.tents.fault.TentFault.{TentFault}
use Rattle.fields_core.specs.declared.tents.fault.TentFault.TheVariants.{Column, Match, Row, Touch, Tree}

-- Which grids solve a puzzle of Tents, in the words of the manual of Simon Tatham's Portable Puzzle Collection: no tent
-- stands on a tree, no two tents touch, each column and row has its number of tents, and the tents are paired one to one
-- with the trees, each with a tree beside it. Two pairings of one set of tents are one solution.

-- each tent has a tree beside it, no two have the same, and each tree is some tent's
pub record IsPairedBy (p : Tents) (g : List ℕ) (tree_of : ℕ → ℕ) : Type 0 where
  pub is_tree : (c : ℕ) → c < tent_cells p → tent g c ≡ true → tree p (tree_of c) ≡ true
  pub is_beside : (c : ℕ) → c < tent_cells p → tent g c ≡ true
      → has_place (beside p.size c) (tree_of c) ≡ true
  pub own : (c d : ℕ) → c < tent_cells p → d < tent_cells p
      → tent g c ≡ true → tent g d ≡ true → tree_of c ≡ tree_of d → c ≡ d
  pub none_out : (d : ℕ) → d < tent_cells p → tree p d ≡ true
      → (c : ℕ) × (c < tent_cells p) × (tent g c ≡ true) × (tree_of c ≡ d)

pub record IsTentSolution (p : Tents) (g : List ℕ) : Type 0 where
  pub grid : IsGrid (tent_cells p) 2 g
  pub none_on_trees : (c : ℕ) → c < tent_cells p → tent g c ≡ true → tree p c ≡ false
  pub none_touch : (c d : ℕ) → c < tent_cells p → d < tent_cells p
      → tent g c ≡ true → tent g d ≡ true → touches p.size c d ≡ false
  pub columns : (x : ℕ) → x < p.size.w → tents_in_column p.size g x ≡ slice_index p.counts x
  pub rows : (y : ℕ) → y < p.size.h → tents_in_row p.size g y ≡ slice_index p.counts (p.size.w + y)
  pub tree_of : ℕ → ℕ
  pub paired : IsPairedBy p g tree_of

-- What is wrong with a grid of Tents: the first of these tests that fails, the lowest place, column or row of each kind first.

-- a tent on a tree; a tent that touches a tent; a column and a row with another number of tents; no way to pair the
-- tents with the trees
abbrev pub FailsTents : Tents → List ℕ → TentFault → Type 0
FailsTents p g (Tree c) = (tent g c ≡ true) × (tree p c ≡ true)
FailsTents p g (Touch c) =
    (tent g c ≡ true)
    × ((d : ℕ) × (d < tent_cells p) × (tent g d ≡ true) × (touches p.size c d ≡ true))
FailsTents p g (Column x) = tents_in_column p.size g x ≢ slice_index p.counts x
FailsTents p g (Row y) = tents_in_row p.size g y ≢ slice_index p.counts (p.size.w + y)
FailsTents p g Match = (tree_of : ℕ → ℕ) → IsPairedBy p g tree_of → ⊥

abbrev pub tent_tests : Tents → List TentFault
tent_tests p =
    tests_of ((Tree, tent_cells p) ∷ (Touch, tent_cells p) ∷ (Column, p.size.w) ∷ (Row, p.size.h)
    ∷ ((λ _. Match), 1) ∷ [])

abbrev pub IsTentFault : Tents → List ℕ → Option TentFault → Type 0
IsTentFault p g fault =
    IsAnswerOfCheck (IsTentSolution p g) (FailsTents p g) (tent_tests p) fault
