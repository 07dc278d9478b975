-- Solo: the grid of orders, and the puzzle that gives all cells.
use Rattle.maker_core.proofs.Common.{All-from_get_or, All-get_or, All-map, AreOrders, Block, Bool, Column, Diagonal, IfSome, IsSoloHouse, IsInside, IsOnlySolution, IsSolo, IsSoloSize, IsSoloSolution, IsThinnedFrom, IsTrueOf, List, NamedHouse, None, Option, Outcome.OneSolution, Row, Solo, Solves, Some, TellsOne, all_given, ap, append-nil, append_assoc, arith, block_of, clue_is, common_steps, div-add-mod', div_below, eqb-true, false, first_number, get_or-map, get_or-map-range_with_len, houses_lawful, houses_rules, is_clue, is_one, is_some, length, length-map, length-map-range_with_len, length-take-le, lies_in_house, map, map_more, mod_below, mul-add-lt, mul-pos, old_number, rearranged, recursion_from_All, refl, replicate, rows, rule_from_test, same_from_place, same_number_lists, set_at, single, slice_index, slice_set, solo_game, solo_passes, solo_puzzle, start, suc, sym, take, test_from_rule, true, true≢false, ℕ, ◌%◌, ◌*◌, ◌++◌, ◌+◌, ◌-◌, ◌/◌, ◌<◌, ◌∙◌, ◌∷◌, ◌≡◌, ◌≤◌}
use Rattle.maker_core.proofs.FirstTries.{start_found, start_only}

-- Two cells of one row, column or block of the grid before it is shuffled hold different numbers: each is a number below
-- n, another for each cell of the line, moved on by what the line has in common, and counted round n.

-- numbers below n that are moved on alike, round n, stay apart
pub moved_apart : (n k a b : ℕ) → a < n → b < n → (a + k) % n ≡ (b + k) % n → a ≡ b
moved_apart n k a b la lb e =
    grind (arith, div-add-mod' (a + k) n, div-add-mod' (b + k) n, same_from_place ((b + k) / n) a ((a + k) / n) b n)

-- a line is told by its group and its place in it
pub same_line : (size y z : ℕ) → y / size ≡ z / size → y % size ≡ z % size → y ≡ z
same_line size y z e f = grind (arith, div-add-mod' y size, div-add-mod' z size)

-- where a row begins, before the numbers are counted round n
pub begin_below : (c r y : ℕ) → 0 < c → y < c * r → (y % c) * r + y / c < c * r
begin_below c r y c_low lt = grind (arith, rows)

module _ {c r : ℕ} (c_low : 0 < c) (r_low : 0 < r) where
  pub row_apart : {x u : ℕ} (y : ℕ) → x < c * r → u < c * r → first_number c r x y ≡ first_number c r u y → x ≡ u
  row_apart {x} {u} y lx lu e = grind (arith, moved_apart (c * r) ((y % c) * r + y / c) x u)

  pub column_apart : (x : ℕ) {y z : ℕ} → y < c * r → z < c * r → first_number c r x y ≡ first_number c r x z → y ≡ z
  column_apart x {y} {z} ly lz e =
      let far : y / c < r = div_below y c r c_low (omega arith) in
      let far' : z / c < r = div_below z c r c_low (omega arith) in
      grind (
        arith,
        moved_apart (c * r) x ((y % c) * r + y / c) ((z % c) * r + z / c),
        begin_below c r y,
        begin_below c r z,
        same_from_place (y % c) (y / c) (z % c) (z / c) r,
        div-add-mod' y c,
        div-add-mod' z c,
      )

  pub block_apart : (x u y z : ℕ) → x / r ≡ u / r → y / c ≡ z / c → first_number c r x y ≡ first_number c r u z → (x ≡ u) × (y ≡ z)
  block_apart x u y z stack band e =
      let same = moved_apart (c * r) (y / c + x / r * r) ((y % c) * r + x % r) ((z % c) * r + u % r) in
      grind (
        arith,
        same,
        mul-add-lt (y % c) r (x % r) c,
        mul-add-lt (z % c) r (u % r) c,
        mod_below y c,
        mod_below z c,
        mod_below x r,
        mod_below u r,
        same_from_place (y % c) (x % r) (z % c) (u % r) r,
        div-add-mod' x r,
        div-add-mod' u r,
        div-add-mod' y c,
        div-add-mod' z c,
      )

-- The grid of orders is a solution of the puzzle that gives all its cells: two cells of one row, column or block come of two
-- cells of one before the shuffles, and there the numbers differ.

pub rearranged-at : (c r : ℕ) (numbers rows columns : List ℕ) (place : ℕ) → place < (c * r) * (c * r)
    → slice_index (rearranged c r numbers rows columns) place ≡ slice_index numbers (old_number c r rows columns place)
unfolding rearranged
rearranged-at c r numbers rows columns place lt = grind (arith, get_or-map-range_with_len)

pub length-rearranged : (c r : ℕ) (numbers rows columns : List ℕ) → length (rearranged c r numbers rows columns) ≡ (c * r) * (c * r)
unfolding rearranged
length-rearranged c r numbers rows columns = grind (arith, length-map-range_with_len)

module _ (c r : ℕ) (numbers rows columns : List ℕ) (orders : AreOrders c r numbers rows columns) where
  abbrev grid : List ℕ
  grid = rearranged c r numbers rows columns

  abbrev cells : ℕ
  cells = (c * r) * (c * r)

  -- the old column and the old row of a place
  abbrev old_x : ℕ → ℕ
  old_x place = slice_index columns (place % (c * r))

  abbrev old_y : ℕ → ℕ
  old_y place = slice_index rows (place / (c * r))

  side_some : 0 < c * r
  side_some = mul-pos orders.c_some orders.r_some

  x_below : (place : ℕ) → place % (c * r) < c * r
  x_below place = mod_below place (c * r) side_some

  y_below : {place : ℕ} → place < cells → place / (c * r) < r * c
  y_below {place} lt = omega (arith, div_below place (c * r) (c * r) side_some lt)

  pub old_x_below : (place : ℕ) → old_x place < c * r
  old_x_below place = grind (arith, common_steps, x_below)

  pub old_y_below : (place : ℕ) → place < cells → old_y place < c * r
  old_y_below place lt = grind (arith, common_steps, y_below)

  -- two cells that hold the same
  module _ {j k : ℕ} (lj : j < cells) (lk : k < cells) (e : slice_index grid j ≡ slice_index grid k) where
    same_first : old_number c r rows columns j ≡ old_number c r rows columns k
    same_first = grind (arith, common_steps, mod_below, side_some, rearranged-at)

    same_x : old_x j ≡ old_x k → j % (c * r) ≡ k % (c * r)
    same_x = grind (arith, common_steps, x_below)

    same_y : old_y j ≡ old_y k → j / (c * r) ≡ k / (c * r)
    same_y = grind (arith, common_steps, y_below)

    apart_in_row : j / (c * r) ≡ k / (c * r) → j ≡ k
    apart_in_row row =
        grind (arith, same_first, row_apart orders.c_some orders.r_some (old_y j) (old_x_below j) (old_x_below k), same_x, same_line (c * r) j k)

    apart_in_column : j % (c * r) ≡ k % (c * r) → j ≡ k
    apart_in_column column =
        let apart = column_apart orders.c_some orders.r_some (old_x j) (old_y_below j lj) (old_y_below k lk) in
        grind (arith, same_first, apart, same_y, same_line (c * r) j k)

    apart_in_block : block_of (all_given c r false grid) j ≡ block_of (all_given c r false grid) k → j ≡ k
    apart_in_block block =
        let w = same_from_place (j / (c * r) / c) (j % (c * r) / r) (k / (c * r) / c) (k % (c * r) / r) c
        (div_below (j % (c * r)) r c orders.r_some (x_below j)) (div_below (k % (c * r)) r c orders.r_some (x_below k)) block in
        let bands = orders.row_order.together (j / (c * r)) (k / (c * r)) (y_below lj) (y_below lk) w.0 in
        let stacks = orders.column_order.together (j % (c * r)) (k % (c * r)) (x_below j) (x_below k) w.1 in
        let old = block_apart orders.c_some orders.r_some (old_x j) (old_x k) (old_y j) (old_y k) stacks bands same_first in
        same_line (c * r) j k (same_y old.1) (same_x old.0)

    apart_in_house : (house : NamedHouse) → IsSoloHouse (all_given c r false grid) house
        → lies_in_house (all_given c r false grid) house j ≡ true → lies_in_house (all_given c r false grid) house k ≡ true → j ≡ k
    apart_in_house (Row y) is a b = apart_in_row (eqb-true _ _ a ∙ sym (eqb-true _ _ b))
    apart_in_house (Column x) is a b = apart_in_column (eqb-true _ _ a ∙ sym (eqb-true _ _ b))
    apart_in_house (Block n) is a b = apart_in_block (eqb-true _ _ a ∙ sym (eqb-true _ _ b))
    apart_in_house (Diagonal d) is a b = absurd (true≢false (sym is.1))

  pub is_solution_of_all : IsSoloSolution (all_given c r false grid) grid
  is_solution_of_all = record {
    grid = record {
      each_cell = length-rearranged c r numbers rows columns;
      each_value = All-from_get_or (λ v. v < c * r) grid 0 (λ place lt.
          let low = orders.number_order.within (old_number c r rows columns place) (mod_below _ (c * r) side_some) in
          grind (arith, length-rearranged c r numbers rows columns, rearranged-at c r numbers rows columns place));
    };
    givens = λ place lt some. grind (arith, length-rearranged c r numbers rows columns, get_or-map);
    different = λ house is j k lj lk ne a b e. ne (apart_in_house lj lk e house is a b);
  }

-- what the writing of the grid cites
pub ruleset solution_laws = (same_number_lists, begin_below, rearranged-at, length-rearranged, old_x_below, old_y_below)

-- The puzzle that gives all cells of a grid: its search starts from that grid alone.

pub given-at : (g : List ℕ) (place : ℕ) → place < length g → slice_index (map suc g) place ≡ slice_index g place + 1
given-at g place lt = grind (arith, get_or-map)

-- one more number of a list is written
pub written : (xs : List ℕ) (m k v : ℕ) → k < length xs → length xs ≤ m → v ≡ slice_index xs k + 1
    → slice_set (map suc (take k xs) ++ replicate (m - k) 0) k v ≡ map suc (take (k + 1) xs) ++ replicate (m - (k + 1)) 0
written xs m k v lt room is =
    let front = map suc (take k xs) in
    let rest = replicate (m - (k + 1)) 0 in
    let e : m - k ≡ suc (m - (k + 1)) = omega arith in
    let next : suc (slice_index xs k) ≡ v = omega arith in
    rw e (set_at front 0 rest v k (length-map (take k xs) suc ∙ length-take-le k xs (omega arith)))
    ∙ sym (ap (λ ys. ys ++ rest) (map_more suc xs k 0 lt) ∙ append_assoc front _ rest ∙ ap (λ z. front ++ z ∷ rest) next)

-- the puzzle whose first k cells have the numbers of a list, and whose other cells are blank
abbrev pub given_first : ℕ → ℕ → Bool → List ℕ → ℕ → Solo
given_first c r x numbers k = solo_puzzle c r x (map suc (take k numbers) ++ replicate ((c * r) * (c * r) - k) 0)

pub given-all : (p : Solo) (c r : ℕ) (x : Bool) (g : List ℕ) (k : ℕ) → p ≡ given_first c r x g k → k ≡ length g → length g ≡ (c * r) * (c * r)
    → p ≡ all_given c r x g
given-all p c r x g k is all long = grind (arith, common_steps, append-nil)

module _ (c r : ℕ) (x : Bool) (g : List ℕ) (size : IsSoloSize c r) (solution : IsSoloSolution (all_given c r x g) g) where
  solo : IsSolo (all_given c r x g)
  solo = record {
    c_low = size.c_low;
    r_low = size.r_low;
    n_high = size.n_high;
    cells = length-map g suc ∙ solution.grid.each_cell;
    range = recursion_from_All (λ v. v ≤ c * r) (map suc g) (All-map (λ v. v ≤ c * r) suc g solution.grid.each_value);
  }

  solves : Solves (houses_rules (all_given c r x g)) g
  solves = record { grid = solution.grid; good = test_from_rule (all_given c r x g) solo g solution }

  inside : IsInside (start (all_given c r x g)) (single g)
  unfolding start single
  inside place v on = grind (arith, given-at g place, solution.grid.each_cell)

  -- no other grid solves it, and its verdict with any budget says so
  pub all_given-only : IsTrueOf (houses_rules (all_given c r x g)) (OneSolution g)
  all_given-only = start_only (houses_lawful (all_given c r x g) solo) solves inside

  pub all_given-found : (budget : ℕ) → TellsOne (houses_rules (all_given c r x g)) budget g
  all_given-found budget = start_found (houses_lawful (all_given c r x g) solo) solves inside budget

-- what is left of the puzzle when givens were taken away is a puzzle
pub thinned-solo : (c r : ℕ) (x : Bool) (p : Solo) (g : List ℕ) → IsSoloSize c r → IsSoloSolution (all_given c r x g) g
    → IsThinnedFrom solo_game p (all_given c r x g) → IsSolo p
thinned-solo c r x p g size solution w = record {
  c_low = rw w.frame.c size.c_low;
  r_low = rw w.frame.r size.r_low;
  n_high = rw (w.frame.c, w.frame.r) size.n_high;
  cells = rw (w.frame.c, w.frame.r) (w.frame.cells ∙ length-map g suc ∙ solution.grid.each_cell);
  range = rw (w.frame.c, w.frame.r) (recursion_from_All (λ v. v ≤ c * r) p.givens (All-from_get_or (λ v. v ≤ c * r) p.givens 0 given_low));
}
  where
    given_low : (place : ℕ) → place < length p.givens → slice_index p.givens place ≤ c * r
    given_low place lt =
        let value = All-get_or (λ v. v < c * r) g place 0 in
        let given = w.clues place (slice_index p.givens place) in
        grind (
          arith,
          given,
          is_clue (slice_index p.givens place),
          clue_is (slice_index (map suc g) place) (slice_index p.givens place),
          given-at g place,
          value,
          solution.grid.each_value,
          w.frame.cells,
          length-map g suc,
        )

-- what the writing of all givens cites
pub ruleset full_laws = (written, given-all)

-- a filling passes where it is there
pub found_passes : (c r : ℕ) (x : Bool) (budget : ℕ) (filling : Option (List ℕ)) → IsSoloSize c r
    → IfSome filling (λ g. IsSoloSolution (all_given c r x g) g) → is_some filling ≡ solo_passes c r x budget filling
found_passes c r x budget (Some g) size solution = sym (ap is_one (all_given-found c r x g size solution budget))
found_passes c r x budget None size solution = refl

pub only_by_rules : (p : Solo) (g : List ℕ) → IsSolo p → IsTrueOf (houses_rules p) (OneSolution g) → IsOnlySolution (IsSoloSolution p) g
only_by_rules p g ok w = grind (arith, common_steps, rule_from_test, test_from_rule)

-- a puzzle that has the sizes of the full one has its clues among the same
pub same_given : (p : Solo) (c r : ℕ) (x : Bool) (g : List ℕ) → p.c ≡ c → p.r ≡ r → p.x ≡ x → all_given p.c p.r p.x g ≡ all_given c r x g
same_given p c r x g columns rows diagonals = rw (columns, rows, diagonals) refl
