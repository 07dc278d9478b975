-- What the puzzles are, without where they lie in memory.
use Rattle.std.specs.Prelude.{◌≡◌, ℕ, Bool, ◌+◌, ◌*◌, ◌<◌, ◌≤◌, List, [], ◌∷◌, length}
use Rattle.std.specs.List.{AllByRecursion}
use Rattle.grid_core.specs.Extent.{Extent, IsExtent}
use Rattle.grid_core.specs.Lines.{line_cells, lines_of}
use Rattle.gameid_core.specs.declared.light_up.cell.LightCell.{LightCell}
use Rattle.gameid_core.specs.declared.light_up.cell.LightCell.TheVariants.{White, Black, Numbered}
use Rattle.gameid_core.specs.Head.{max_numbers}

pub record Pattern : Type 0 where
  pub size : Extent
  pub clues : List (List ℕ)

abbrev pub pattern_puzzle : Extent → List (List ℕ) → Pattern
pattern_puzzle size clues = record { size = size; clues = clues }

-- the cells that a clue's numbers take, each with one cell after it
abbrev pub used : List ℕ → ℕ
used [] = 0
used (n ∷ clue) = (n + 1) + used clue

-- a clue that fits a line of so many cells
pub record IsClue (cells : ℕ) (clue : List ℕ) : Type 0 where
  pub positive : AllByRecursion (λ n. 0 < n) clue
  pub fits : used clue ≤ cells + 1

-- the clues from a line on fit their lines
abbrev pub AreClues : Extent → ℕ → List (List ℕ) → Type 0
AreClues size line [] = Unit {0}
AreClues size line (clue ∷ clues) =
    IsClue (line_cells size line) clue × AreClues size (line + 1) clues

pub record IsPattern (p : Pattern) : Type 0 where
  pub size : IsExtent p.size
  pub lines : length p.clues ≡ lines_of p.size
  pub clues : AreClues p.size 0 p.clues

-- columns and rows of sub-blocks, whether both diagonals, too, hold every number once, and the
-- givens by place, 0 for a blank cell
pub record Solo : Type 0 where
  pub c : ℕ
  pub r : ℕ
  pub x : Bool
  pub givens : List ℕ

abbrev pub solo_puzzle : ℕ → ℕ → Bool → List ℕ → Solo
solo_puzzle c r x givens = record { c = c; r = r; x = x; givens = givens }

-- the numbers of a grid, which are also its rows
abbrev pub solo_n : Solo → ℕ
solo_n p = p.c * p.r

pub record IsSolo (p : Solo) : Type 0 where
  pub c_low : 2 ≤ p.c
  pub r_low : 2 ≤ p.r
  pub n_high : solo_n p ≤ max_numbers
  pub cells : length p.givens ≡ solo_n p * solo_n p
  pub range : AllByRecursion (λ v. v ≤ solo_n p) p.givens

pub record Light : Type 0 where
  pub size : Extent
  pub cells : List LightCell

-- a number of a black cell is at most 4
abbrev pub IsLightCell : LightCell → Type 0
IsLightCell White = Unit {0}
IsLightCell Black = Unit {0}
IsLightCell (Numbered n) = n ≤ 4

-- both sides are at least 2
pub record IsWide (size : Extent) : Type 0 where
  pub extent : IsExtent size
  pub w_two : 2 ≤ size.w
  pub h_two : 2 ≤ size.h

pub record IsLight (p : Light) : Type 0 where
  pub size : IsWide p.size
  pub count : length p.cells ≡ p.size.w * p.size.h
  pub each : AllByRecursion IsLightCell p.cells

-- 1 for a tree and 0 for any other cell, by place; and the tents of each column and row
pub record Tents : Type 0 where
  pub size : Extent
  pub trees : List ℕ
  pub counts : List ℕ

abbrev pub tents_puzzle : Extent → List ℕ → List ℕ → Tents
tents_puzzle size trees counts = record { size = size; trees = trees; counts = counts }

-- the counts from a line on are at most their lines' cells
abbrev pub AreCounts : Extent → ℕ → List ℕ → Type 0
AreCounts size line [] = Unit {0}
AreCounts size line (n ∷ counts) = (n ≤ line_cells size line) × AreCounts size (line + 1) counts

pub record IsTents (p : Tents) : Type 0 where
  pub size : IsWide p.size
  pub cells : length p.trees ≡ p.size.w * p.size.h
  pub bits : AllByRecursion (λ b. b < 2) p.trees
  pub lines : length p.counts ≡ lines_of p.size
  pub range : AreCounts p.size 0 p.counts
