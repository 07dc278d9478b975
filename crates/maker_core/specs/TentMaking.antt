-- What a maker of Tents tries, and what it gives.
use Rattle.std.specs.Prelude.{Bool, List, [], filter, if◌then◌else◌, length, nat_lt, not, replicate, slice_index, slice_set, suc, zero, ℕ, ◌&&◌, ◌*◌, ◌/◌, ◌==◌, ◌≡◌, ◌≤◌}
use Rattle.maker_core.specs.Below.{Extent, IsExtent, IsTentSolution, RuleSystem, Stream, Tents, beside, lines_ones, tent_rules}
use Rattle.grid_core.specs.Candidates.{any_below}
use Rattle.fields_core.specs.Tents.{tent, touches}
use Rattle.maker_core.specs.declared.tents.filling.TentFilling.{TentFilling}
use Rattle.maker_core.specs.Draws.{AllFail, HasWords, IsFirstPassing, Making, Tries, draw_below, filling_at, shuffled_order}
use Rattle.maker_core.specs.Made.{IsOnlySolution, TellsOne, has_one}
use Rattle.maker_core.specs.declared.made.Kept.{Kept}
use Rattle.maker_core.specs.declared.made.Limits.{Limits}
use Rattle.maker_core.specs.declared.made.Made.{Made}
use Rattle.maker_core.specs.declared.made.MakeFault.{MakeFault}
use Rattle.maker_core.specs.declared.made.MakeFault.TheVariants.{Exhausted, Memory, SizeRange}

-- What a maker of Tents tries. Grids have 1 at a tree or a tent and 0 elsewhere.

-- no trees and no tents
unfoldable pub no_tents : Extent → TentFilling
no_tents size =
    let none = replicate (size.w * size.h) 0 in
    record { trees = none; tents = none; placed = 0 }

-- the cell has neither tree nor tent
abbrev pub is_free : TentFilling → ℕ → Bool
is_free filling c = (slice_index filling.trees c == 0) && (slice_index filling.tents c == 0)

-- the free cells beside a cell: up, left, right, down
unfoldable pub free_cells_beside : Extent → TentFilling → ℕ → List ℕ
free_cells_beside size filling c = filter (is_free filling) (beside size c)

-- the cell touches a tent
abbrev pub touches_tent : Extent → List ℕ → ℕ → Bool
touches_tent size tents c = any_below (λ d. touches size c d && tent tents d) (size.w * size.h)

-- fewer tents stand than a fifth of the cells, rounded down; the cell has no tree, touches no tent, has free cells beside
abbrev pub may_have_tent : Extent → TentFilling → ℕ → Bool
may_have_tent size filling c =
    nat_lt filling.placed (size.w * size.h / 5)
    && ((slice_index filling.trees c == 0)
    && (not (touches_tent size filling.tents c)
    && nat_lt 0 (length (free_cells_beside size filling c))))

-- a tent in the cell and a tree in one of the free cells beside it, which a draw names
abbrev pub place_tent : Extent → TentFilling → ℕ → Making TentFilling
place_tent size filling c s =
    let free = free_cells_beside size filling c in
    let draw = draw_below (length free) s in
    let trees = slice_set filling.trees (slice_index free draw.0) 1 in
    let tents = slice_set filling.tents c 1 in
    (record { trees = trees; tents = tents; placed = suc filling.placed }, draw.1)

-- the cell is taken
abbrev pub take_cell : Extent → TentFilling → ℕ → Making TentFilling
take_cell size filling c s =
    if may_have_tent size filling c then place_tent size filling c s else (filling, s)

-- the filling when the first k cells of the order were taken in turn
unfoldable pub tents_after : Extent → List ℕ → ℕ → Making TentFilling
tents_after size order zero s = (no_tents size, s)
tents_after size order (suc k) s =
    let before = tents_after size order k s in
    take_cell size before.0 (slice_index order k) before.1

-- the filling when all of them were
abbrev pub tents_of_order : Extent → List ℕ → Making TentFilling
tents_of_order size order = tents_after size order (length order)

-- the cells, listed by place and shuffled, are taken in turn
unfoldable pub tent_filling : Extent → Making TentFilling
tent_filling size s =
    let order = shuffled_order (size.w * size.h) s in
    tents_of_order size order.0 order.1

-- its puzzle: the trees, and how many tents each line has
unfoldable pub tents_puzzle_of : Extent → TentFilling → Tents
tents_puzzle_of size filling =
    record { size = size; trees = filling.trees; counts = lines_ones size filling.tents }

-- the tents solve it
abbrev pub IsSolvedFilling : Extent → TentFilling → Type 0
IsSolvedFilling size filling = IsTentSolution (tents_puzzle_of size filling) filling.tents

-- what holds of each filling, over any stream of words
abbrev pub EachFilling : (Extent → TentFilling → Type 0) → Type 0
EachFilling P = (size : Extent) (s : Stream) (k : ℕ)
    → IsExtent size → HasWords s → P size (filling_at (tent_filling size) k s)

-- the rules of a search of its puzzle
abbrev pub tent_rules_filled : Extent → TentFilling → RuleSystem
tent_rules_filled size filling = tent_rules (tents_puzzle_of size filling)

-- a filling passes where the verdict of its puzzle is one
abbrev pub tents_pass : Extent → ℕ → TentFilling → Bool
tents_pass size budget filling = has_one (tent_rules_filled size filling) budget

-- Which sizes a maker of Tents takes, and what it gives.

-- both sides are at least 4
pub record IsTentSize (size : Extent) : Type 0 where
  pub w_four : 4 ≤ size.w
  pub h_four : 4 ≤ size.h

-- The first of the fillings that passes gives the solution and the puzzle, which has no other solution, and its verdict
-- says so. Clues are not thinned.
pub record IsTentsMade (size : Extent) (budget tries : ℕ) (s : Stream)
    (p : Tents) (g : List ℕ) (kept : List Kept) : Type 0 where
  pub k : ℕ
  pub first : IsFirstPassing (tent_filling size) (tents_pass size budget) s tries k
  pub clues : p ≡ tents_puzzle_of size (filling_at (tent_filling size) k s)
  pub filled : g ≡ (filling_at (tent_filling size) k s).tents
  pub size_asked : p.size ≡ size
  pub only : IsOnlySolution (IsTentSolution p) g
  pub verdict : TellsOne (tent_rules p) budget g
  pub unthinned : kept ≡ []

-- what a maker tries and gives within its limits
abbrev pub tents_tries : Extent → Limits → Tries TentFilling
tents_tries size limits = record {
  make = tent_filling size;
  passes = tents_pass size limits.budget;
  count = limits.tries;
  ends = λ filling s. s;
}

abbrev pub MakesTents : Extent → Limits → Stream → Made Tents → Type 0
MakesTents size limits s made = IsTentSize size
    × IsTentsMade size limits.budget limits.tries s made.puzzle made.answer made.kept.items

-- Why it gives nothing: no puzzle of the size is made; no try passes; or a try had no memory.
abbrev pub IsTentsUnmade : Extent → Limits → Stream → MakeFault → Type 0
IsTentsUnmade size limits s SizeRange = IsTentSize size → ⊥
IsTentsUnmade size limits s Exhausted = IsTentSize size × AllFail (tents_tries size limits) s
IsTentsUnmade size limits s Memory = IsTentSize size × (1 ≤ limits.tries)
