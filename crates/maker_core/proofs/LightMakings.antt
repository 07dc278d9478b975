-- Light Up: fillings, and the puzzles of them.
use Rattle.maker_core.proofs.Common.{All, All-contains, AreAll, Black, Bool, Contains-get_or, Contains-permutation, Extent, HasOne, IsGrid, IsLawful, IsLit, IsOnly, IsPermutation, IsPermutation-sym, Light, LightCell, LightFilling, List, Numbered, TellsOne, White, add-one, all_below-at, all_below-from, and_from, any_below-here, any_below-some, ap, arith, beside, black_right, bulb, bulb-in, bulb_right, bulbs_after, bulbs_beside, cases_eq, closure_inside, common_steps, cond_both, count_by-le-length, elements, false, false_from_ne_true, fill_by_all, filter, filter_passes, get_or, get_or-map, get_or-map-range_with_len, get_or_default, get_or_past, has_one, if◌then◌else◌, inl, inr, is_one, joined_in_column, joined_in_row, length, length-map, length-map-range_with_len, light-lawful, light_cells, light_puzzle_of, light_rules, lights_of, lit-from, lit-parts, lit_right, map, not, number_is, number_right, numbered_cell, or_cases, or_left, or_right, range_with_len, refl, replicate, sees, sees_back, sees_bulb, slice_index, slice_set, solves_lights, start_of, steps-few, suc, sym, true, true≢false, white, white-in, white_places, with_bulb, with_numbers, zero, ℕ, ◌*◌, ◌+◌, ◌<◌, ◌==◌, ◌||◌, ◌∙◌, ◌≡◌, ◌≤◌}
use Rattle.maker_core.proofs.WrittenGrids.{filter_laws, grid_with, no_one, old_stays, passes_kept, zeros-grid}
use Rattle.maker_core.proofs.FirstTries.{found_at_once, one_grid}

-- The cells of a puzzle of Light Up, rewritten one by one.

-- the cells below `place` are the new ones, and the others the old ones
pub record AreCellsRewritten (size : Extent) (new old : ℕ → LightCell) (place : ℕ) (p : Light) : Type 0 where
  pub sized : p.size ≡ size
  pub long : length p.cells ≡ size.w * size.h
  pub now : (k : ℕ) → k < place → k < size.w * size.h → get_or p.cells k Black ≡ new k
  pub before : (k : ℕ) → place ≤ k → k < size.w * size.h → get_or p.cells k Black ≡ old k

abbrev pub black_cell : List ℕ → ℕ → LightCell
black_cell black k = if get_or black k 0 == 1 then Black else White

abbrev pub white_cell : ℕ → LightCell
white_cell k = White

abbrev pub old_cell : Light → ℕ → LightCell
old_cell p k = get_or p.cells k Black

-- all cells are rewritten
pub AreCellsRewritten-all : {size : Extent} {new old : ℕ → LightCell} {place : ℕ} (p : Light) → AreCellsRewritten size new old place p → size.w * size.h ≤ place
    → p ≡ record { size = size; cells = map new (range_with_len 0 (size.w * size.h)) }
AreCellsRewritten-all {size} {new} p w all =
    let cells = fill_by_all new p.cells (size.w * size.h) Black w.long (λ k lt. w.now k (omega arith) lt) in
    rw (← cells, ← w.sized) refl

-- ---- black cells
pub blackened : (size : Extent) (black : List ℕ) {place : ℕ} (p : Light) → AreCellsRewritten size (black_cell black) white_cell place p
    → size.w * size.h ≤ place → length black ≡ size.w * size.h → p ≡ lights_of size black
unfolding lights_of
blackened size black p w all long =
    let colour : ℕ → LightCell = λ v. if v == 1 then Black else White in
    rw (fill_by_all (black_cell black) (map colour black) (size.w * size.h) Black (length-map black colour ∙ long)
    (λ k lt. get_or-map colour black k 0 Black (omega arith)))
    (AreCellsRewritten-all p w all)

-- ---- numbers
pub numbered_all : (p q : Light) (g : List ℕ) {place : ℕ} → AreCellsRewritten p.size (numbered_cell p g) (old_cell p) place q
    → light_cells p ≤ place → q ≡ with_numbers p g
unfolding with_numbers
numbered_all p q g w all = AreCellsRewritten-all q w all

-- a cell has at most four beside it
pub bulbs_few : (p : Light) (g : List ℕ) (c : ℕ) → bulbs_beside p g c ≤ 4
bulbs_few p g c = omega (arith, count_by-le-length (bulb g) (beside p.size c), steps-few p.size c 4)

-- Who sees whom; and that white cells which were taken in turn, in any order, hold or see a bulb, so the grid solves the puzzle with all numbers.

-- ---- numbers change no colour
pub number_at : (p : Light) (g : List ℕ) (c : ℕ) → c < light_cells p → get_or (with_numbers p g).cells c Black ≡ numbered_cell p g c
unfolding with_numbers
number_at p g c lt = grind (arith, get_or-map-range_with_len)

pub same_white : (p : Light) (g : List ℕ) → length p.cells ≡ light_cells p → (c : ℕ) → white (with_numbers p g) c ≡ white p c
unfolding white with_numbers
same_white p g long c = grind (arith, number_at p g c, get_or_past, length-map-range_with_len)

-- so the same cells see each other
same_sees : (p : Light) (g : List ℕ) → length p.cells ≡ light_cells p → (a b : ℕ) → sees (with_numbers p g) a b ≡ sees p a b
unfolding sees joined_in_row joined_in_column with_numbers
same_sees p g long a b = simp (same_white p g long)

pub same_seen : (p : Light) (g : List ℕ) → length p.cells ≡ light_cells p → (c : ℕ) → sees_bulb (with_numbers p g) g c ≡ sees_bulb p g c
unfolding sees_bulb with_numbers
same_seen p g long c = simp (same_sees p g long)

pub sees_itself : (p : Light) (a : ℕ) → sees p a a ≡ false
unfolding sees
sees_itself p a = grind arith

-- a bulb that is seen
pub seen_bulb : (p : Light) (g : List ℕ) (c : ℕ) → sees_bulb p g c ≡ true → (d : ℕ) × (d < light_cells p) × (sees p c d ≡ true) × (bulb g d ≡ true)
unfolding sees_bulb
seen_bulb p g c on =
    let w = any_below-some _ _ on in
    (w.0, w.1, grind arith, grind arith)

pub bulb_seen : (p : Light) (g : List ℕ) (c d : ℕ) → d < light_cells p → sees p c d ≡ true → bulb g d ≡ true → sees_bulb p g c ≡ true
unfolding sees_bulb
bulb_seen p g c d lt sight on = any_below-here _ _ d lt (and_from _ _ sight on)

-- ---- the white cells
pub white_all : (p : Light) (k : ℕ) (xs : List ℕ) → xs ≡ filter (white p) (range_with_len 0 k) → k ≡ light_cells p → xs ≡ white_places p
unfolding white_places
white_all p k xs is all = is ∙ ap (λ n. filter (white p) (range_with_len 0 n)) all

-- ---- the bulbs
pub bulbs_after-grid : (p : Light) (order : List ℕ) (k : ℕ) → IsGrid (light_cells p) 2 (bulbs_after p order k)
unfolding bulbs_after
bulbs_after-grid p order zero = zeros-grid
bulbs_after-grid p order (suc k) =
    let before = bulbs_after-grid p order k in
    cond_both (bulb (bulbs_after p order k) (slice_index order k) || sees_bulb p (bulbs_after p order k) (slice_index order k)) _ _ (IsGrid (light_cells p) 2)
    (λ held. before) (λ none. grid_with (slice_index order k) 1 (omega arith) refl before)

pub bulbs_none : (p : Light) (order : List ℕ) → replicate (light_cells p) 0 ≡ bulbs_after p order 0
unfolding bulbs_after
bulbs_none p order = refl

pub bulbs_next : (p : Light) (order : List ℕ) (k : ℕ) → bulbs_after p order (k + 1) ≡ with_bulb p (bulbs_after p order k) (slice_index order k)
unfolding bulbs_after
bulbs_next p order k = rw add-one refl

-- what the placing of bulbs cites
pub ruleset bulb_laws = (bulbs_none, bulbs_next, bulbs_after-grid)

-- what the listing of white cells cites
pub ruleset white_laws = (filter_laws, white_all)

-- the first k cells of the order hold or see a bulb, bulbs stand on white cells and none sees another
pub record IsPlanted (p : Light) (order g : List ℕ) (k : ℕ) : Type 0 where
  pub on_white : (c : ℕ) → bulb g c ≡ true → white p c ≡ true
  pub apart : (c d : ℕ) → bulb g c ≡ true → bulb g d ≡ true → sees p c d ≡ false
  pub lit : (j : ℕ) → j < k → (bulb g (slice_index order j) || sees_bulb p g (slice_index order j)) ≡ true

planted_none : (p : Light) {order : List ℕ} → IsPlanted p order (replicate (light_cells p) 0) 0
planted_none p = grind (arith, common_steps, no_one)

planted_held : {p : Light} {order g : List ℕ} {k : ℕ} → IsPlanted p order g k
    → (bulb g (slice_index order k) || sees_bulb p g (slice_index order k)) ≡ true → IsPlanted p order g (suc k)
planted_held w held = grind (arith, common_steps)

-- ---- a new bulb
lit_stays : (p : Light) (g : List ℕ) (c d : ℕ) → c < length g → (bulb g d || sees_bulb p g d) ≡ true
    → (bulb (slice_set g c 1) d || sees_bulb p (slice_set g c 1) d) ≡ true
lit_stays p g c d lt on = grind (arith, common_steps, or_cases, or_left, old_stays, seen_bulb, or_right, bulb_seen)

planted_new : (p : Light) (order g : List ℕ) (k c : ℕ) → length g ≡ light_cells p → IsPlanted p order g k
    → c ≡ slice_index order k → white p c ≡ true → c < light_cells p
    → (bulb g c || sees_bulb p g c) ≡ false → IsPlanted p order (slice_set g c 1) (suc k)
planted_new p order g k c long w at on within none = record {
  on_white = λ d here. grind (arith, elements, w.on_white d);
  apart = λ d e here there. grind (arith, elements, w.apart d e, sees_itself p c, unseen d, unseen e, sees_back p d c, w.on_white d);
  lit = λ j lt. elim (cases_eq j k) [
    | inl e ↦ grind (arith, elements)
    | inr ne ↦ lit_stays p g c (slice_index order j) (omega arith) (w.lit j (omega arith))
  ];
}
  where
    unseen : (d : ℕ) → bulb g d ≡ true → sees p c d ≡ false
    unseen d old =
        false_from_ne_true _ (λ seen. true≢false
        (sym (or_right (bulb g c) _ (bulb_seen p g c d (bulb-in g d long old) seen old)) ∙ none))

pub planted : (p : Light) (order : List ℕ) → ((j : ℕ) → j < length order → white p (slice_index order j) ≡ true) → length p.cells ≡ light_cells p
    → (k : ℕ) → k ≤ length order → IsPlanted p order (bulbs_after p order k) k
unfolding bulbs_after
planted p order whites long zero le = planted_none p
planted p order whites long (suc k) le =
    grind (arith, common_steps, cond_both, planted_held, planted_new, bulbs_after-grid, white-in, planted p order whites long k (omega arith))

-- ---- the rules
number_met : {cell : LightCell} (white_cell : Bool) (n : ℕ) → cell ≡ (if white_cell then White else Numbered n) → number_is cell n ≡ true
number_met b n e = grind arith

pub lights_solved : (p : Light) {order g : List ℕ} {k : ℕ} → length p.cells ≡ light_cells p → IsGrid (light_cells p) 2 g → IsPlanted p order g k
    → ((c : ℕ) → white p c ≡ true → (j : ℕ) × (j < k) × (slice_index order j ≡ c)) → solves_lights (with_numbers p g) g ≡ true
unfolding with_numbers black_right number_right bulb_right lit_right
lights_solved p {g} long grid w each =
    lit-from _ g (all_below-from _ _ black) (all_below-from _ _ number) (all_below-from _ _ alone)
    (all_below-from _ _ lit)
  where
    black : (c : ℕ) → c < light_cells p → black_right (with_numbers p g) g c ≡ true
    black c lt = grind (arith, same_white p g long c, w.on_white c, grid.each_value c 0, grid.each_cell)

    number : (c : ℕ) → c < light_cells p → number_right (with_numbers p g) g c ≡ true
    number c lt = number_met (white p c) _ (number_at p g c lt)

    alone : (c : ℕ) → c < light_cells p → bulb_right (with_numbers p g) g c ≡ true
    alone c lt = rw (same_seen p g long c) (grind (arith, seen_bulb p g c, w.apart c))

    lit : (c : ℕ) → c < light_cells p → lit_right (with_numbers p g) g c ≡ true
    lit c lt = grind (arith, same_white p g long c, same_seen p g long c, each c, w.lit)

-- ---- in any order of the white cells
pub order_white : (p : Light) {order : List ℕ} → IsPermutation (white_places p) order → (j : ℕ) → j < length order → white p (slice_index order j) ≡ true
unfolding white_places
order_white p {order} mixed j lt =
    All-contains (λ c. white p c ≡ true) _ (slice_index order j) (filter_passes (white p) (range_with_len 0 (light_cells p)))
    (Contains-permutation order _ (slice_index order j) (IsPermutation-sym _ order mixed) (Contains-get_or order j 0 lt))

order_each : (p : Light) {order : List ℕ} → length p.cells ≡ light_cells p → IsPermutation (white_places p) order → (c : ℕ) → white p c ≡ true
    → (j : ℕ) × (j < length order) × (slice_index order j ≡ c)
unfolding white_places
order_each p {order} long mixed c on =
    let w = Contains-permutation (white_places p) order c mixed (passes_kept (white p) (light_cells p) c (white-in p c long on) on) in
    (w.0, w.1, get_or_default order w.0 0 c w.1 ∙ w.2)

pub lit_solved : (p : Light) (order g : List ℕ) → length p.cells ≡ light_cells p → IsPermutation (white_places p) order → g ≡ bulbs_after p order (length order)
    → solves_lights (with_numbers p g) g ≡ true
lit_solved p order g long mixed is =
    rw is (lights_solved p long (bulbs_after-grid p order (length order))
    (planted p order (order_white p mixed) long (length order) (omega arith))
    (order_each p long mixed))

-- What is drawn for a filling of Light Up is its definition.

-- the white cells in any order
pub order_within : (p : Light) {order : List ℕ} → IsPermutation (white_places p) order → length p.cells ≡ light_cells p
    → All (λ c. c < light_cells p) order
order_within p {order} mixed long k d lt =
    rw (get_or_default order k d 0 lt) (white-in p (slice_index order k) long (order_white p mixed k lt))

-- black cells alone
black_at : (size : Extent) (cells : List ℕ) → AreAll 1 cells → (c : ℕ) → white (lights_of size cells) c ≡ false
unfolding white lights_of
black_at size cells all c = grind (arith, all c, get_or-map, get_or_past, length-map)

black_long : (size : Extent) (cells : List ℕ) → length cells ≡ size.w * size.h → length (lights_of size cells).cells ≡ light_cells (lights_of size cells)
unfolding lights_of
black_long size cells long = length-map cells _ ∙ long

pub none_white : (size : Extent) (f : LightFilling) → length f.black ≡ size.w * size.h → AreAll 1 f.black → (c : ℕ) → white (light_puzzle_of size f) c ≡ false
unfolding light_puzzle_of
none_white size f long all c = grind (arith, common_steps, same_white, black_long, black_at)

-- numbers told by the same bulbs are the same
again_at : (p : Light) (g : List ℕ) → length p.cells ≡ light_cells p → (c : ℕ) → numbered_cell p g c ≡ numbered_cell (with_numbers p g) g c
unfolding with_numbers
again_at p g long c = rw (same_white p g long c) refl

again : (p : Light) (g : List ℕ) → length p.cells ≡ light_cells p → with_numbers p g ≡ with_numbers (with_numbers p g) g
unfolding with_numbers
again p g long = grind (arith, common_steps, again_at)

pub numbers_again : (size : Extent) (f : LightFilling) → length f.black ≡ size.w * size.h
    → light_puzzle_of size f ≡ with_numbers (light_puzzle_of size f) f.bulbs
unfolding light_puzzle_of
numbers_again size f long = again (lights_of size f.black) f.bulbs (black_long size f.black long)

-- A puzzle of black cells alone passes; and what is known of the puzzle of a filling.

-- ---- black cells alone
start_black : (p : Light) (c v : ℕ) → white p c ≡ false → v < 2 → start_of (light_cells p) (λ d. not (white p d)) c v ≡ true → v ≡ 0
unfolding start_of
start_black p c v off few on = grind arith

no_bulb_on : (p : Light) (g : List ℕ) (c : ℕ) → solves_lights p g ≡ true → c < light_cells p → white p c ≡ false → slice_index g c ≡ 0
unfolding black_right
no_bulb_on p g c lit lt off = grind (arith, all_below-at (black_right p g) (light_cells p) c (lit-parts p g lit).black lt)

-- ---- the puzzle of a filling
pub size_is : (size : Extent) (f : LightFilling) (p : Light) → p ≡ light_puzzle_of size f → p.size ≡ size
unfolding light_puzzle_of with_numbers lights_of
size_is size f p is = ap (λ r. r.size) is

pub all_numbers : (size : Extent) (f : LightFilling) (p : Light) → p ≡ light_puzzle_of size f → IsLit size f → p ≡ with_numbers p f.bulbs
all_numbers size f p is lit = rw is (numbers_again size f lit.black.each_cell)

pub lit_one : (size : Extent) (f : LightFilling) (budget : ℕ) (p : Light) → p ≡ light_puzzle_of size f → IsLit size f
    → HasOne (light_rules (light_puzzle_of size f)) budget → IsOnly (light_rules p) f.bulbs × TellsOne (light_rules p) budget f.bulbs
unfolding light_puzzle_of with_numbers lights_of
lit_one size f budget p is lit one = rw is (one_grid f.bulbs one (record { grid = lit.bulbs; good = lit.solved }))

-- what the thinning of a filling's puzzle cites
pub ruleset lit_laws = (all_numbers, lit_one)

-- black cells alone pass
pub all_black : (size : Extent) (f : LightFilling) (budget : ℕ) (p : Light) → p ≡ light_puzzle_of size f → IsLawful (light_rules p) → IsLit size f
    → AreAll 1 f.black → has_one (light_rules p) budget ≡ true
unfolding light_puzzle_of with_numbers lights_of
all_black size f budget p is laws lit black =
    let none : (c : ℕ) → white p c ≡ false = λ c. rw is (none_white size f lit.black.each_cell black c) in
    let good : solves_lights p f.bulbs ≡ true = rw is lit.solved in
    ap is_one (found_at_once laws (record { grid = rw is lit.bulbs; good = good })
    (λ c v lt few here. start_black p c v (none c) few (closure_inside _ (light_rules p).start c v here)
    ∙ sym (no_bulb_on p f.bulbs c good lt (none c))) budget)

pub ruleset black_laws = (all_black, light-lawful, size_is)
