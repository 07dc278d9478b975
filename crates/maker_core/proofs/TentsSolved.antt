-- Tents: fillings, and that each solves its puzzle.
use Rattle.maker_core.proofs.Common.{Extent, HasWords, IsExtent, IsGrid, IsOrder, IsTentPlaced, IsTentSolution, IsTentTaken, List, Stream, TentFilling, Tents, [], add-one, any_below-none, ap, arith, at_column, at_row, beside-in, cases_eq, column_places, common_steps, cond, cond_both, elements, false, filter, filter-few, free_cells_beside, has_place, has_place-here, inl, inr, is_free, length, length-filter, lines_ones, map, map-map, may_have_tent, mul-le, no_tents, ones, place-filter, place_tent, range_with_len, refl, replicate, row_places, shuffled_order, slice_index, slice_set, step-down, step-keep, step-left, step-none, step-right, step-skip, step-up, steps, steps-few, steps-some, stream_after, subst, suc, sym, take_cell, tent, tent-in, tent_filling, tents_after, tents_in_column, tents_in_row, tents_puzzle, tents_puzzle_of, touches, true, zero, ℕ, ◌&&◌, ◌*◌, ◌+◌, ◌<◌, ◌==◌, ◌∙◌, ◌∷◌, ◌≡◌, ◌≤◌}
use Rattle.maker_core.proofs.WrittenGrids.{grid_with, new_or_old, no_one, zeros-grid}
use Rattle.maker_core.proofs.Shuffles.{IsShuffledOrder, draw_is, order_is, words_later}

-- The puzzle of a filling has its trees and the numbers of its tents.

pub tents_is : (size : Extent) (filling : TentFilling) (p : Tents) → p ≡ tents_puzzle size filling.trees (lines_ones size filling.tents)
    → p ≡ tents_puzzle_of size filling
unfolding tents_puzzle_of
tents_is size filling p is = is

pub tents_size : (size : Extent) (filling : TentFilling) (p : Tents) → p ≡ tents_puzzle_of size filling → p.size ≡ size
unfolding tents_puzzle_of
tents_size size filling p is = ap (λ q. q.size) is

-- Cells of Tents that are taken in turn: each tent has a tree of its own beside it, none stands on a tree, and no two touch.

pub wide : (size : Extent) {c : ℕ} → c < size.w * size.h → 1 ≤ size.w
wide size lt = grind (arith, cases_eq size.w 0)

pub free_all : (size : Extent) (filling : TentFilling) (c : ℕ) {n : ℕ} {places : List ℕ}
    → places ≡ filter (is_free filling) (steps size c n) → n ≡ 4 → places ≡ free_cells_beside size filling c
unfolding free_cells_beside
free_all size filling c is all = grind (arith, common_steps)

-- of the first n sides at most n are free
pub free_few : (size : Extent) (filling : TentFilling) (c n : ℕ) → length (filter (is_free filling) (steps size c n)) ≤ n
free_few size filling c n = omega (arith, filter-few (is_free filling) (steps size c n), steps-few size c n)

pub free_room : (size : Extent) (filling : TentFilling) (c : ℕ) {n : ℕ} {places : List ℕ}
    → places ≡ filter (is_free filling) (steps size c n) → n < 4 → length places < 4
free_room size filling c {n} is lt = rw is (omega (arith, free_few size filling c n))

pub beside_few : (size : Extent) (filling : TentFilling) (c : ℕ) → length (free_cells_beside size filling c) ≤ 4
unfolding free_cells_beside
beside_few size filling c = free_few size filling c 4

pub free_place : (size : Extent) (filling : TentFilling) (c t : ℕ) → has_place (free_cells_beside size filling c) t ≡ true
    → (has_place (steps size c 4) t ≡ true) × (is_free filling t ≡ true)
unfolding free_cells_beside
free_place size filling c t on = place-filter (is_free filling) (steps size c 4) t on

-- ---- a tent more
pub placed_is : {size : Extent} {filling new : TentFilling} {c k : ℕ} (free : List ℕ) → free ≡ free_cells_beside size filling c
    → k < length free → may_have_tent size filling c ≡ true
    → new.trees ≡ slice_set filling.trees (slice_index free k) 1 → new.tents ≡ slice_set filling.tents c 1 → IsTentPlaced size filling c new
placed_is {k} free is below may trees tents = grind (arith, common_steps, has_place-here)

-- a free cell beside a cell lies in the grid
pub free_in : (size : Extent) (filling : TentFilling) (c k : ℕ) (free : List ℕ) → c < size.w * size.h
    → free ≡ free_cells_beside size filling c → k < length free → slice_index free k < size.w * size.h
free_in size filling c k free lt is below =
    beside-in size (slice_index free k) (wide size lt) lt
    (free_place size filling c (slice_index free k) (subst (λ xs. has_place xs (slice_index free k) ≡ true) is (has_place-here free k below))).0

-- ---- the cells in turn
pub none_after : (size : Extent) (order : List ℕ) {filling : TentFilling} {s : Stream} → filling ≡ no_tents size
    → (filling, s) ≡ tents_after size order 0 s
unfolding tents_after
none_after size order {s} is = ap (λ c. (c, s)) is

pub more_after : (size : Extent) (order : List ℕ) (k : ℕ) {c : ℕ} {old new : TentFilling} (s : Stream) {t u : Stream}
    → (old, t) ≡ tents_after size order k s
    → (new, u) ≡ take_cell size old c t → c ≡ slice_index order k
    → (new, u) ≡ tents_after size order (k + 1) s
unfolding tents_after
more_after size order k s before drawn at = rw (add-one, sym before, sym at) drawn

pub filled : (size : Extent) {places order : List ℕ} {filling : TentFilling} {n : ℕ} (s : Stream) {t u : Stream} → n ≡ size.w * size.h
    → (places, t) ≡ shuffled_order n s → order ≡ places
    → (filling, u) ≡ tents_after size order (length order) t → (filling, u) ≡ tent_filling size s
unfolding tent_filling
filled size s cells drawn lent after = rw (sym cells, sym drawn, sym lent) after

pub no_tents_is : (size : Extent) {trees tents : List ℕ} (n : ℕ) → n ≡ size.w * size.h → trees ≡ replicate n 0 → tents ≡ replicate n 0
    → ◌≡◌ {A = TentFilling} (record { trees = trees; tents = tents; placed = 0 }) (no_tents size)
unfolding no_tents
no_tents_is size n cells is_trees is_tents = rw (is_trees, is_tents, cells) refl

-- the four sides of a cell, as the listing of free cells cites them
pub ruleset sides = (step-none, step-skip, step-keep, free_room)

-- what the placing of a tent cites
pub ruleset place_laws = (beside_few, free_in, placed_is)

-- what the first k cells of the order made
pub record IsFillingAfter (size : Extent) (order : List ℕ) (k : ℕ) (filling : TentFilling) : Type 0 where
  pub trees_grid : IsGrid (size.w * size.h) 2 filling.trees
  pub tents_grid : IsGrid (size.w * size.h) 2 filling.tents
  pub taken : (d : ℕ) → tent filling.tents d ≡ true → (j : ℕ) × (j < k) × (slice_index order j ≡ d)
  pub solved : IsTentSolution (tents_puzzle_of size filling) filling.tents

-- ---- cells
none_itself : (size : Extent) (c : ℕ) → 1 ≤ size.w → has_place (steps size c 4) c ≡ true → ⊥
none_itself size c w on =
    grind (arith, step-up size c c, step-left size c c, step-right size c c, step-down size c c, steps-some size c 4 c on)

touch_back : (size : Extent) (a b : ℕ) → touches size a b ≡ true → touches size b a ≡ true
unfolding touches
touch_back size a b on = grind arith

touch_itself : (size : Extent) (a : ℕ) → touches size a a ≡ false
unfolding touches
touch_itself size a = grind arith

-- ---- the rules
filtered_ones : (g xs : List ℕ) → length (filter (tent g) xs) ≡ ones (map (slice_index g) xs)
filtered_ones g [] = refl
filtered_ones g (x ∷ xs) = grind (arith, filtered_ones g xs)

column_count : (size : Extent) (g : List ℕ) (x : ℕ) → x < size.w → tents_in_column size g x ≡ slice_index (lines_ones size g) x
column_count size g x lt =
    sym (length-filter (tent g) (column_places size x)) ∙ filtered_ones g (column_places size x)
    ∙ ap ones (map-map (slice_index g) (λ y. y * size.w + x) (range_with_len 0 size.h)) ∙ sym (at_column ones 0 size g x lt)

row_count : (size : Extent) (g : List ℕ) (y : ℕ) → y < size.h → tents_in_row size g y ≡ slice_index (lines_ones size g) (size.w + y)
row_count size g y lt =
    sym (length-filter (tent g) (row_places size y)) ∙ filtered_ones g (row_places size y)
    ∙ ap ones (map-map (slice_index g) (λ x. y * size.w + x) (range_with_len 0 size.w)) ∙ sym (at_row ones 0 size g y lt)

-- ---- no cell, and a cell that is left
pub filling_none : {size : Extent} {order : List ℕ} {filling : TentFilling} → filling ≡ no_tents size → IsFillingAfter size order 0 filling
unfolding no_tents tents_puzzle_of
filling_none {size} is =
    let n : ℕ = size.w * size.h in
    rw is (record {
      trees_grid = zeros-grid;
      tents_grid = zeros-grid;
      taken = λ d on. absurd (no_one n d on);
      solved = record {
        grid = zeros-grid;
        none_on_trees = λ c _ on. absurd (no_one n c on);
        none_touch = λ c d _ _ on _. absurd (no_one n c on);
        columns = column_count size (replicate n 0);
        rows = row_count size (replicate n 0);
        tree_of = λ d. d;
        paired = record {
          is_tree = λ c _ on. absurd (no_one n c on);
          is_beside = λ c _ on. absurd (no_one n c on);
          own = λ c d _ _ on _ _. absurd (no_one n c on);
          none_out = λ t _ on. absurd (no_one n t on);
        };
      };
    })

-- ---- a tent more
-- the cell, its tree and what stood before
record IsNew (size : Extent) (old : TentFilling) (c t : ℕ) : Type 0 where
  c_in : c < size.w * size.h
  t_in : t < size.w * size.h
  c_new : tent old.tents c ≡ true → ⊥
  c_free : slice_index old.trees c ≡ 0
  t_tree : slice_index old.trees t ≡ 0
  t_tent : slice_index old.tents t ≡ 0
  other : c ≡ t → ⊥
  beside : has_place (steps size c 4) t ≡ true
  alone : (d : ℕ) → tent old.tents d ≡ true → touches size c d ≡ false

new_from : (size : Extent) {order : List ℕ} (k c : ℕ) (old new : TentFilling) → 1 ≤ size.w → IsOrder (size.w * size.h) order
    → k < size.w * size.h → c ≡ slice_index order k
    → IsFillingAfter size order k old → (p : IsTentPlaced size old c new) → IsNew size old c p.tree
new_from size k c old new w ordered lt at before p =
    let free = free_place size old c p.tree p.free in
    let may = p.may in
    let c_in : c < size.w * size.h = rw at (ordered.within k lt) in
    record {
      c_in = c_in;
      t_in = beside-in size p.tree (omega arith) c_in free.0;
      c_new = λ on. let t = before.taken c on in let same = ordered.apart t.0 k (omega (arith, t.1)) lt (t.2 ∙ at) in absurd (omega (arith, t.1));
      c_free = grind arith;
      t_tree = grind (arith, free.1);
      t_tent = grind (arith, free.1);
      other = λ e. none_itself size c w (subst (λ x. has_place (steps size c 4) x ≡ true) (sym e) free.0);
      beside = free.0;
      alone = λ d on.
          grind (arith, any_below-none (λ d. touches size c d && tent old.tents d) (size.w * size.h), tent-in old.tents d before.tents_grid.each_cell on);
    }

filling_more : (size : Extent) {order : List ℕ} (k c : ℕ) (old new : TentFilling) → IsFillingAfter size order k old
    → (p : IsTentPlaced size old c new) → IsNew size old c p.tree
    → c ≡ slice_index order k → IsFillingAfter size order (k + 1) new
unfolding tents_puzzle_of
filling_more size k c old new w p n at =
    let cells : ℕ = size.w * size.h in
    let s = w.solved in
    let t : ℕ = p.tree in
    let trees = p.trees in
    let tents = p.tents in
    let tents_in : length old.tents ≡ cells = w.tents_grid.each_cell in
    let trees_in : length old.trees ≡ cells = w.trees_grid.each_cell in
    let tents_grid = grid_with c 1 (omega arith) tents w.tents_grid in
    record {
      trees_grid = grid_with t 1 (omega arith) trees w.trees_grid;
      tents_grid = tents_grid;
      taken = λ d on. elim (new_or_old old.tents c d (rw tents at on)) [
        | inl e ↦ (k, omega arith, sym at ∙ sym e)
        | inr was ↦ let j = w.taken d was in (j.0, omega (arith, j.1), j.2)
      ];
      solved = record {
        grid = tents_grid;
        none_on_trees = λ d lt on. grind (arith, elements, s.none_on_trees d lt, n.c_free, n.t_tent, n.other);
        none_touch = λ a b la lb ona onb. grind (arith, elements, s.none_touch a b la lb, n.alone a, n.alone b, touch_itself size c, touch_back size a c);
        columns = column_count size new.tents;
        rows = row_count size new.tents;
        tree_of = λ d. cond (d == c) t (s.tree_of d);
        paired = record {
          is_tree = λ d lt on. grind (arith, elements, s.paired.is_tree d lt, n.t_in);
          is_beside = λ d lt on. grind (arith, elements, s.paired.is_beside d lt, n.beside);
          own = λ a b la lb ona onb same. grind (arith, elements, s.paired.own a b la lb, s.paired.is_tree a la, s.paired.is_tree b lb, n.t_tree);
          none_out = λ x lt on. elim (new_or_old old.trees t x (rw trees at on)) [
            | inl e ↦ (c, n.c_in, grind (arith, elements), grind (arith, elements))
            | inr was ↦ let d = s.paired.none_out x lt was in (d.0, d.1, grind (arith, elements), grind (arith, n.c_new))
          ];
        };
      };
    }

pub filling_step : {size : Extent} {order : List ℕ} {k c : ℕ} {old new : TentFilling} → 1 ≤ size.w
    → IsOrder (size.w * size.h) order → k < size.w * size.h → c ≡ slice_index order k
    → IsFillingAfter size order k old → IsTentTaken size old c new → IsFillingAfter size order (k + 1) new
filling_step w ordered lt at before (inl same) = grind (arith, common_steps, before.trees_grid, before.tents_grid, before.taken, before.solved)
filling_step {size} {k} {c} {old} {new} w ordered lt at before (inr p) =
    filling_more size k c old new before p (new_from size k c old new w ordered lt at before p) at

-- Each filling of Tents over a stream of words solves its puzzle.

-- a filling, and words after it
record IsTakenBy (size : Extent) (old : TentFilling) (c : ℕ) (q : TentFilling × Stream) : Type 0 where
  taken : IsTentTaken size old c q.0
  words : HasWords q.1

place_takes : (size : Extent) {filling : TentFilling} (c : ℕ) (s : Stream) → may_have_tent size filling c ≡ true → HasWords s
    → IsTakenBy size filling c (place_tent size filling c s)
place_takes size {filling} c s may words = grind (arith, common_steps, beside_few, draw_is, placed_is)

cell_takes : (size : Extent) (filling : TentFilling) (c : ℕ) (s : Stream) → HasWords s → IsTakenBy size filling c (take_cell size filling c s)
cell_takes size filling c s words = cond_both (may_have_tent size filling c) (place_tent size filling c s) (filling, s) (IsTakenBy size filling c)
    (λ may. place_takes size c s may words) (λ none. record { taken = inl refl; words = words })

record IsFillingBy (size : Extent) (order : List ℕ) (k : ℕ) (q : TentFilling × Stream) : Type 0 where
  filling : IsFillingAfter size order k q.0
  words : HasWords q.1

filling_is : {size : Extent} {order : List ℕ} {s : Stream} → 1 ≤ size.w → IsOrder (size.w * size.h) order → HasWords s
    → (k : ℕ) → k ≤ size.w * size.h → IsFillingBy size order k (tents_after size order k s)
unfolding tents_after
filling_is low ordered words zero within = record { filling = filling_none refl; words = words }
filling_is {size} {order} {s} low ordered words (suc k) within =
    let q : TentFilling × Stream = tents_after size order k s in
    let before : IsFillingBy size order k q = filling_is low ordered words k (omega arith) in
    let c : ℕ = slice_index order k in
    let took : IsTakenBy size q.0 c (take_cell size q.0 c q.1) = cell_takes size q.0 c q.1 before.words in
    record {
      filling = subst (λ n. IsFillingAfter size order n (take_cell size q.0 c q.1).0) (add-one k)
          (filling_step low ordered (omega arith) refl before.filling took.taken);
      words = took.words;
    }

-- a filling that solves its puzzle, with words after it
pub record IsFillingSolved (size : Extent) (q : TentFilling × Stream) : Type 0 where
  pub trees : IsGrid (size.w * size.h) 2 q.0.trees
  pub solves : IsTentSolution (tents_puzzle_of size q.0) q.0.tents
  pub words : HasWords q.1

pub filling_solves : {size : Extent} {s : Stream} → IsExtent size → HasWords s → IsFillingSolved size (tent_filling size s)
unfolding tent_filling
filling_solves {size} {s} extent words =
    let cells = mul-le size.w size.h 120 120 extent.w_high extent.h_high in
    let order : List ℕ × Stream = shuffled_order (size.w * size.h) s in
    let shuffled : IsShuffledOrder (size.w * size.h) order = order_is (size.w * size.h) s (omega arith) words in
    let len = shuffled.order.len in
    let made : IsFillingBy size order.0 (length order.0) (tents_after size order.0 (length order.0) order.1) =
    filling_is extent.w_low shuffled.order shuffled.words (length order.0) (omega arith) in
    record {
      trees = made.filling.trees_grid;
      solves = made.filling.solved;
      words = made.words;
    }

-- the k-th filling
pub filling_at_solves : {size : Extent} {s : Stream} → IsExtent size → HasWords s → (k : ℕ)
    → IsFillingSolved size (tent_filling size (stream_after (tent_filling size) k s))
filling_at_solves {size} extent words k = filling_solves extent (words_later (tent_filling size) (λ s w. (filling_solves extent w).words) words k)
