-- The fillings of Solo and of Solo X.
use Rattle.std.specs.Prelude.{Bool, List, None, Option, Some, Vec, [], if◌then◌else◌, length, map, option_map, replicate, slice_index, suc, true, zero, ℕ, ◌%◌, ◌*◌, ◌++◌, ◌+◌, ◌-◌, ◌/◌, ◌<◌, ◌==◌, ◌||◌, ◌≡◌, ◌≤◌}
use Rattle.gameid_core.specs.Head.{max_numbers}
use Rattle.maker_core.specs.Below.{IsSoloSolution, Outcome, Outcome.GaveUp, Outcome.NoSolution, Outcome.OneSolution, Outcome.SeveralSolutions, Solo, Stream, houses_rules, range_with_len, solo_puzzle, verdict_of}
use Rattle.maker_core.specs.Draws.{IsDrawnBy, Making, draw_below, shuffled_order}
use Rattle.maker_core.specs.declared.solo.filling.Lines.{Lines}
use Rattle.std.specs.Borrow.{Bor}

-- Orders of numbers, and orders of the lines of a grid that keep groups of lines together.

-- the numbers below n, each once
pub record IsOrder (n : ℕ) (xs : List ℕ) : Type 0 where
  pub len : length xs ≡ n
  pub within : (k : ℕ) → k < n → slice_index xs k < n
  pub apart : (j k : ℕ) → j < n → k < n → slice_index xs j ≡ slice_index xs k → j ≡ k

-- so many groups of so many lines, in an order in which the lines of one group stay one group
pub record IsLineOrder (count size : ℕ) (lines : List ℕ) : Type 0 where
  pub order : IsOrder (count * size) lines
  pub together : (y z : ℕ) → y < count * size → z < count * size → y / size ≡ z / size
      → slice_index lines y / size ≡ slice_index lines z / size

-- orders of the numbers, rows and columns of a grid of c columns and r rows of sub-blocks
pub record AreOrders (c r : ℕ) (numbers rows columns : List ℕ) : Type 0 where
  pub c_some : 0 < c
  pub r_some : 0 < r
  pub few : c * r ≤ max_numbers
  pub number_order : IsOrder (c * r) numbers
  pub row_order : IsLineOrder r c rows
  pub column_order : IsLineOrder c r columns

-- The filling of plain Solo: a grid that has every number once in each row, column and block, and in which the numbers, the
-- bands, the rows of each band, the stacks and the columns of each stack are then shuffled. A band is c rows, a stack is
-- r columns. A grid holds the number v as v - 1.

-- the number in column x and row y before anything is shuffled
abbrev pub first_number : ℕ → ℕ → ℕ → ℕ → ℕ
first_number c r x y = ((y % c) * r + y / c + x) % (c * r)

-- with the lines of a group after the lines before, in that order; and in a shuffled order
abbrev pub group_added : ℕ → ℕ → List ℕ → List ℕ × Stream → List ℕ × Stream
group_added size group lines inside = (lines ++ map (λ k. group * size + k) inside.0, inside.1)

abbrev pub group_drawn : ℕ → ℕ → List ℕ → Making (List ℕ)
group_drawn size group lines s = group_added size group lines (shuffled_order size s)

-- a list of lines has so many of a group more, in an order that a generator's stream gives
abbrev pub IsGroupDrawn : {G Z : Type 0}
    → ℕ → ℕ → Vec ℕ Z → Vec ℕ Z → (G → Stream) → G → G → Type 0
IsGroupDrawn size group old new stream before after =
    IsDrawnBy (group_drawn size group old.items) stream before after new.items

-- the lines of the first k groups of a new order of groups, each group's own lines shuffled, the first group first
unfoldable pub lines_of_groups : ℕ → List ℕ → ℕ → Stream → List ℕ × Stream
lines_of_groups size groups zero s = ([], s)
lines_of_groups size groups (suc k) s =
    let before = lines_of_groups size groups k s in
    group_drawn size (slice_index groups k) before.0 before.1

-- so many groups of so many lines: the groups are shuffled, and then the lines in each, the first group first. Entry y of
-- the list is the old line that now stands at y
abbrev pub line_order : ℕ → ℕ → Stream → List ℕ × Stream
line_order count size s =
    let groups = shuffled_order count s in
    lines_of_groups size groups.0 count groups.1

-- the number that comes to a place when rows and columns stand in a new order
abbrev pub old_number : ℕ → ℕ → List ℕ → List ℕ → ℕ → ℕ
old_number c r rows columns place =
    first_number c r (slice_index columns (place % (c * r))) (slice_index rows (place / (c * r)))

-- the grid, row by row, in which so they stand, and each number has become another
unfoldable pub rearranged : ℕ → ℕ → List ℕ → List ℕ → List ℕ → List ℕ
rearranged c r numbers rows columns =
    map (λ place. slice_index numbers (old_number c r rows columns place))
    (range_with_len 0 ((c * r) * (c * r)))

-- the same by the new orders of its rows and columns
abbrev pub in_lines : ℕ → ℕ → List ℕ → Lines → List ℕ
in_lines c r numbers lines = rearranged c r numbers lines.rows.now lines.columns.now

-- the grid that is made of a stream, and the stream that is left: the numbers are shuffled first, then the r bands and
-- the rows in each, then the c stacks and the columns in each
abbrev pub plain_filling : ℕ → ℕ → Making (List ℕ)
plain_filling c r s =
    let numbers = shuffled_order (c * r) s in
    let rows = line_order r c numbers.1 in
    let columns = line_order c r rows.1 in
    (rearranged c r numbers.0 rows.0 columns.0, columns.1)

-- the puzzle that gives all cells of the grid; the grid solves that
abbrev pub all_given : ℕ → ℕ → Bool → List ℕ → Solo
all_given c r x g = solo_puzzle c r x (map suc g)

abbrev pub IsFullSolution : ℕ → ℕ → Bool → List ℕ → Type 0
IsFullSolution c r x g = IsSoloSolution (all_given c r x g) g

-- Square grids turned over: flipped left to right, and flipped top to bottom.

-- which of n lines comes to line k: itself, or where they are flipped the one as far from the other end
abbrev pub line_from : Bool → ℕ → ℕ → ℕ
line_from flips n k = if flips then n - 1 - k else k

-- which place's number comes to a place: across flips left to right, down flips top to bottom
abbrev pub flipped_from : ℕ → Bool → Bool → ℕ → ℕ
flipped_from n across down place = line_from down n (place / n) * n + line_from across n (place % n)

-- a grid of n columns and n rows, flipped so
unfoldable pub flipped : ℕ → Bool → Bool → List ℕ → List ℕ
flipped n across down g =
    map (λ place. slice_index g (flipped_from n across down place)) (range_with_len 0 (n * n))

-- flipped by a draw below 4: left to right where it is 1 or 3, top to bottom where it is 2 or 3
abbrev pub flipped_by : ℕ → ℕ → List ℕ → List ℕ
flipped_by n draw g = flipped n ((draw == 1) || (draw == 3)) ((draw == 2) || (draw == 3)) g

-- The filling of Solo X: a search of the puzzle whose top row is given, turned over by a draw.

-- the puzzle whose top row has these numbers, and which has no other given; a number v is held as v - 1
abbrev pub top_row_given : ℕ → ℕ → List ℕ → Solo
top_row_given c r numbers =
    solo_puzzle c r true (map suc numbers ++ replicate ((c * r) * (c * r) - c * r) 0)

-- the puzzle's top row is a shuffled order of the numbers
pub record IsShuffledPuzzle {G : Type 0} (c r : ℕ) (stream : G → Stream) (old new : G)
    (puzzle : Solo) : Type 0 where
  pub numbers : List ℕ
  pub ordered : IsOrder (c * r) numbers
  pub drawn : IsDrawnBy (shuffled_order (c * r)) stream old new numbers
  pub given : puzzle ≡ top_row_given c r numbers

-- the first grid that a search found, if it found one
abbrev pub first_grid : Outcome → Option (List ℕ)
first_grid NoSolution = None
first_grid (OneSolution first) = Some first
first_grid (SeveralSolutions first second) = Some first
first_grid (GaveUp first) = first

-- a grid that was found is flipped by a draw below 4; where none was found, nothing is drawn
abbrev pub flipped_by_draw : ℕ → Option (List ℕ) → Making (Option (List ℕ))
flipped_by_draw n None s = (None, s)
flipped_by_draw n (Some g) s = let draw = draw_below 4 s in (Some (flipped_by n draw.0 g), draw.1)

-- so is one that is lent
abbrev pub lent_flipped : ℕ → Option (Bor (List ℕ)) → Making (Option (List ℕ))
lent_flipped n found = flipped_by_draw n (option_map (λ grid. grid.now) found)

-- the numbers are shuffled, and the puzzle that has them as its top row is searched with the budget
abbrev pub x_filling : ℕ → ℕ → ℕ → Making (Option (List ℕ))
x_filling c r budget s =
    let numbers = shuffled_order (c * r) s in
    let found = first_grid (verdict_of (houses_rules (top_row_given c r numbers.0)) budget) in
    flipped_by_draw (c * r) found numbers.1
