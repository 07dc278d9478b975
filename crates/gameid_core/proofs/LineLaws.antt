-- Lists, lines of a grid, and their clues, runs and ones.
use Rattle.gameid_core.specs.Common.{AllByRecursion, AreClues, AreCounts, AreEnds, Extent, IsClue, IsExtent, IsGrid, IsPattern, IsTents, List, [], ap, arith, between_to_end, column_cells, common_steps, each_below, ends-close, ends-more, flat_map, get_or, get_or-map-range_with_len, join_with_byte, last-close, last-le, length, length-line_numbers, length-map-range_with_len, length-pieces, line_cells, line_numbers, line_numbers-column, line_numbers-row, lines_of, lines_ones, lines_runs, map, map-append, map-range_with_len_more, ones, piece-at, piece-ends, pieces-close, pieces-more, range_with_len, recursion_from_All, refl, replicate, row_cells, run_of, runs, runs_after, suc, used, zero, ℕ, ◌*◌, ◌++◌, ◌+◌, ◌<◌, ◌∙◌, ◌∷◌, ◌≡◌, ◌≤◌}
use Rattle.gameid_core.specs.Clues.{cut_at}

-- Lists.
pub AllByRecursion-append : {A : Type 0} (P : A → Type 0) (xs ys : List A) → AllByRecursion P xs → AllByRecursion P ys → AllByRecursion P (xs ++ ys)
AllByRecursion-append P [] ys h k = k
AllByRecursion-append P (x ∷ xs) ys h k = (h.0, AllByRecursion-append P xs ys h.1 k)

pub AllByRecursion-replicate : {A : Type 0} (P : A → Type 0) (x : A) (k : ℕ) → P x → AllByRecursion P (replicate k x)
AllByRecursion-replicate P x zero h = tt
AllByRecursion-replicate P x (suc k) h = (h, AllByRecursion-replicate P x k h)

pub AllByRecursion-flat_map : {T A : Type 0} (Fits : T → Type 0) (P : A → Type 0) (f : T → List A)
    → ((t : T) → Fits t → AllByRecursion P (f t)) → (ts : List T) → AllByRecursion Fits ts
    → AllByRecursion P (flat_map f ts)
AllByRecursion-flat_map Fits P f h [] all = tt
AllByRecursion-flat_map Fits P f h (t ∷ ts) all =
    grind (arith, common_steps, AllByRecursion-append, AllByRecursion-flat_map Fits P f h ts all.1)

pub all_at : {A : Type 0} (P : A → Type 0) (d : A) (xs : List A) (i : ℕ) → AllByRecursion P xs → i < length xs → P (get_or xs i d)
all_at P d [] i h lt = grind arith
all_at P d (x ∷ xs) i h lt = grind (arith, all_at P d xs)

pub below_none : (f : ℕ → List ℕ) → each_below f 0 ≡ []
unfolding each_below
below_none f = refl

pub below_more : (f : ℕ → List ℕ) (n : ℕ) → each_below f (n + 1) ≡ each_below f n ++ f n
unfolding each_below
below_more f n = grind (arith, common_steps)

pub ruleset pushes = (common_steps, below_none, below_more)

join_push : (c : ℕ) (y : List ℕ) (xs : List (List ℕ)) (x : List ℕ) → join_with_byte c ((y ∷ xs) ++ x ∷ []) ≡ join_with_byte c (y ∷ xs) ++ c ∷ x
join_push c y [] x = refl
join_push c y (z ∷ xs) x = grind (arith, common_steps, join_push c z xs x)

join_some : {A : Type 0} (c : ℕ) (f : A → List ℕ) (ys : List A) (x : List ℕ) → 0 < length ys
    → join_with_byte c (map f ys ++ x ∷ []) ≡ join_with_byte c (map f ys) ++ c ∷ x
join_some c f [] x some = absurd (omega arith)
join_some c f (y ∷ ys) x some = join_push c (f y) (map f ys) x

pub join_more : {A : Type 0} (c : ℕ) (f : A → List ℕ) (ys : List A) (x : A) → 0 < length ys
    → join_with_byte c (map f (ys ++ x ∷ [])) ≡ join_with_byte c (map f ys) ++ c ∷ f x
join_more c f ys x some = grind (arith, common_steps, join_some)

pub ruleset joins = (common_steps, join_more)

-- Laws of clues that are the pieces of one list.
pub cut-push : (xs ends : List ℕ) (x : ℕ) → AreEnds (length xs) 0 ends
    → cut_at ends (xs ++ x ∷ []) ≡ record { clues = (cut_at ends xs).clues; clue = (cut_at ends xs).clue ++ x ∷ [] }
unfolding cut_at
cut-push xs ends x e = grind (arith, common_steps, last-le, pieces-more)

pub cut-close : (xs ends : List ℕ) → cut_at (ends ++ length xs ∷ []) xs ≡ record { clues = (cut_at ends xs).clues ++ (cut_at ends xs).clue ∷ []; clue = [] }
unfolding cut_at
cut-close xs ends = grind (arith, common_steps, between_to_end, last-close, pieces-close)

pub whole-in : (xs ends : List ℕ) (k : ℕ) → k < length (cut_at ends xs).clues → k < length ends
unfolding cut_at
whole-in xs ends k lt = grind (arith, common_steps, length-pieces)

pub ruleset clue_laws = (ends-more, ends-close, cut-push, cut-close, length-pieces, whole-in, piece-at, piece-ends)

-- What is read of each line of a grid.
pub map_more : {A : Type 0} (f : ℕ → A) (k : ℕ) → map f (range_with_len 0 (k + 1)) ≡ map f (range_with_len 0 k) ++ f k ∷ []
map_more f k = grind (arith, common_steps, map-range_with_len_more)

-- a function of each line's list, for the columns and for the rows
pub at_column : {A : Type 0} (f : List ℕ → A) (d : A) (size : Extent) (g : List ℕ) (x : ℕ)
    → x < size.w → get_or (map (λ line. f (line_numbers size g line))
    (range_with_len 0 (lines_of size))) x d ≡ f (column_cells size g x)
at_column f d size g x lt = grind (arith, get_or-map-range_with_len, line_numbers-column)

pub at_row : {A : Type 0} (f : List ℕ → A) (d : A) (size : Extent) (g : List ℕ) (y : ℕ) → y < size.h
    → get_or (map (λ line. f (line_numbers size g line)) (range_with_len 0 (lines_of size)))
    (size.w + y) d ≡ f (row_cells size g y)
at_row f d size g y lt = grind (arith, get_or-map-range_with_len, line_numbers-row)

-- a function of the lists of the first lines
abbrev pub lines_front : {A : Type 0} → (List ℕ → A) → Extent → List ℕ → ℕ → List A
lines_front f size g k = map (λ line. f (line_numbers size g line)) (range_with_len 0 k)

pub ruleset turns = (common_steps, map_more, map-append, length-line_numbers)

-- The ones of a line are no more than its cells.
ones_few : (cells : List ℕ) → ones cells ≤ length cells
ones_few [] = omega arith
ones_few (b ∷ cells) = grind (arith, ones_few cells)

are_ones : (size : Extent) (g : List ℕ) (line n : ℕ) → AreCounts size line (map (λ i. ones (line_numbers size g i)) (range_with_len line n))
are_ones size g line zero = tt
are_ones size g line (suc n) = grind (arith, common_steps, are_ones size g (line + 1) n, ones_few, length-line_numbers)

-- trees, and the ones of the lines, are a puzzle
pub ones_lawful : (size : Extent) (trees tents counts kept : List ℕ) → IsExtent size → 2 ≤ size.w
    → 2 ≤ size.h → IsGrid (size.w * size.h) 2 trees → kept ≡ trees → counts ≡ lines_ones size tents
    → IsTents (record { size = size; trees = kept; counts = counts })
ones_lawful size trees tents counts kept e w h grid same is =
    grind (arith, recursion_from_All, length-map-range_with_len, are_ones)

-- Laws of the runs of a line, by induction on the cells.

-- a white cell cuts a line in two
pub runs_after-cut : (k : ℕ) (f g : List ℕ) → runs_after k (f ++ 0 ∷ g) ≡ runs_after k f ++ runs g
unfolding runs_after
runs_after-cut k [] g = refl
runs_after-cut k (zero ∷ f) g = grind (arith, runs_after-cut 0 f g)
runs_after-cut k (suc x ∷ f) g = runs_after-cut (suc k) f g

runs_after-ones : (k n : ℕ) → runs_after k (replicate n 1) ≡ run_of (k + n)
unfolding runs_after
runs_after-ones k zero = grind (arith, common_steps)
runs_after-ones k (suc n) = grind (arith, runs_after-ones (suc k) n)

-- black cells alone are one run
pub runs_run : (n : ℕ) → runs (replicate (suc n) 1) ≡ suc n ∷ []
runs_run n = runs_after-ones 0 (suc n) ∙ ap run_of (let z : 0 + suc n ≡ suc n = omega arith in z)

pub runs_run_and_white : (n : ℕ) (cells : List ℕ) → runs (replicate (suc n) 1 ++ 0 ∷ cells) ≡ suc n ∷ runs cells
runs_run_and_white n cells = runs_after-cut 0 (replicate (suc n) 1) cells ∙ ap (λ xs. xs ++ runs cells) (runs_run n)

run_of_positive : (k : ℕ) → AllByRecursion (λ n. 0 < n) (run_of k)
run_of_positive k = grind arith

run_of_used : (k : ℕ) → used (run_of k) ≤ k + 1
run_of_used k = grind arith

runs_positive : (k : ℕ) (cells : List ℕ) → AllByRecursion (λ n. 0 < n) (runs_after k cells)
unfolding runs_after
runs_positive k [] = run_of_positive k
runs_positive k (zero ∷ cells) = grind (arith, runs_positive 0 cells)
runs_positive k (suc b ∷ cells) = runs_positive (suc k) cells

runs_used : (k : ℕ) (cells : List ℕ) → used (runs_after k cells) ≤ k + length cells + 1
unfolding runs_after
runs_used k [] = omega (arith, run_of_used k)
runs_used k (zero ∷ cells) = grind (arith, runs_used 0 cells)
runs_used k (suc b ∷ cells) = omega (arith, runs_used (suc k) cells)

runs_line_fits : (size : Extent) (g : List ℕ) (line : ℕ) → IsClue (line_cells size line) (runs (line_numbers size g line))
runs_line_fits size g line = grind (arith, common_steps, length-line_numbers, runs_positive, runs_used)

are_runs : (size : Extent) (g : List ℕ) (line n : ℕ) → AreClues size line (map (λ i. runs (line_numbers size g i)) (range_with_len line n))
are_runs size g line zero = tt
are_runs size g line (suc n) = (runs_line_fits size g line, are_runs size g (line + 1) n)

-- the runs of the lines are clues that fit
pub runs_lawful : (size : Extent) (g : List ℕ) (clues : List (List ℕ)) → IsExtent size
    → clues ≡ lines_runs size g → IsPattern (record { size = size; clues = clues })
runs_lawful size g clues e is = grind (arith, length-map-range_with_len, are_runs)

pub ruleset run_laws = (runs_run, runs_run_and_white)
