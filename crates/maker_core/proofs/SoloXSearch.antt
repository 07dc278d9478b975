-- Solo X: flips of a grid, and what the search of a top row gives.
use Rattle.maker_core.proofs.Common.{All-append, All-from_get_or, All-get_or, All-map, All-replicate, Block, Bool, Column, Diagonal, IfSome, IsAnswer, IsGrid, IsSoloHouse, IsOrder, IsSolo, IsSoloSize, IsSoloSolution, IsTrueOf, List, NamedHouse, None, Option, Outcome, Outcome.GaveUp, Outcome.NoSolution, Outcome.OneSolution, Outcome.SeveralSolutions, Row, RuleSystem, Solo, Solves, Some, Stream, Verdict, all_given, ap, arith, block_of, cases_eq, column_of, common_steps, div-add-mod', div-mul-add, div_below, eq-eqb, eqb, eqb-true, false, first_grid, flipped, flipped_by_draw, flipped_from, get_or-map, get_or-map-range_with_len, house_stays, houses_rules, if◌then◌else◌, length, length-map, length-map-range_with_len, lies_alike, lies_in_house, line_from, map, mod-mul-add, mod_below, mul-add-lt, mul-le, mul-pos, recursion_from_All, refl, replicate, row_of, rule_from_test, same_from_place, same_number_lists, shuffled_order, slice_index, solo_cells, solo_n, solo_puzzle, suc, sym, top_row_given, true, verdict_of, x_filling, ℕ, ◌%◌, ◌*◌, ◌++◌, ◌+◌, ◌-◌, ◌/◌, ◌<◌, ◌∙◌, ◌≡◌, ◌≤◌}
use Rattle.maker_core.proofs.SoloSolution.{given_first, written}

-- A flip of a square grid brings each row to a row, each column to a column, and lines of one group to lines of one group.

-- ---- lines
pub line_from-below : (flips : Bool) {n k : ℕ} → k < n → line_from flips n k < n
line_from-below flips lt = grind arith

-- the group of a line counted from the other end
other_group : (count size k : ℕ) → 0 < size → k < count * size → (count * size - 1 - k) / size ≡ count - 1 - k / size
other_group count size k pos lt =
    let more = count - 1 - k / size in
    let band : k / size < count = div_below k size count pos lt in
    let all : count ≡ k / size + 1 + more = omega arith in
    grind (arith, ap (λ z. z * size) all, div-mul-add more size (size - 1 - k % size), mod_below k size pos, div-add-mod' k size)

-- lines of one group come from lines of one group
pub line_from-together : (flips : Bool) {n : ℕ} (count : ℕ) {size j k : ℕ} → n ≡ count * size → 0 < size → j < n → k < n → j / size ≡ k / size
    → line_from flips n j / size ≡ line_from flips n k / size
line_from-together flips count {size} {j} {k} is pos lj lk e = grind (arith, other_group count size j, other_group count size k)

-- ---- places
module _ (n : ℕ) (across down : Bool) where
  module _ (place : ℕ) (within : place < n * n) where
    some : 0 < n
    some = grind (arith, cases_eq n 0)

    pub from_row : flipped_from n across down place / n ≡ line_from down n (place / n)
    from_row = grind (arith, common_steps, some, div-mul-add, mod_below)

    pub from_column : flipped_from n across down place % n ≡ line_from across n (place % n)
    from_column = grind (arith, common_steps, some, mod-mul-add, mod_below)

    pub from_below : flipped_from n across down place < n * n
    from_below = grind (arith, common_steps, some, mul-add-lt, mod_below, div_below)

    pub flipped-at : (g : List ℕ) → slice_index (flipped n across down g) place ≡ slice_index g (flipped_from n across down place)
    unfolding flipped
    flipped-at g = grind (arith, get_or-map-range_with_len)

  pub from_apart : (j k : ℕ) → j < n * n → k < n * n → flipped_from n across down j ≡ flipped_from n across down k → j ≡ k
  from_apart j k lj lk e =
      grind (
        arith,
        from_row j,
        from_row k,
        from_column j,
        from_column k,
        div-add-mod' j n,
        div-add-mod' k n,
        mod_below j n,
        mod_below k n,
        div_below j n n,
        div_below k n n,
      )

  pub length-flipped : (g : List ℕ) → length (flipped n across down g) ≡ n * n
  unfolding flipped
  length-flipped g = grind (arith, length-map-range_with_len)

  pub flipped-grid : (g : List ℕ) {values : ℕ} → IsGrid (n * n) values g → IsGrid (n * n) values (flipped n across down g)
  flipped-grid g {values} grid = record {
    each_cell = length-flipped g;
    each_value = All-from_get_or (λ v. v < values) (flipped n across down g) 0 (λ place lt.
        grind (arith, length-flipped g, from_below place, flipped-at place, All-get_or (λ v. v < values) g (flipped_from n across down place) 0));
  }

-- what the code of flips cites
pub ruleset flip_laws = (same_number_lists, length-flipped, flipped-at, from_below, line_from-below)

-- A flip of a grid that keeps to all rules but the givens keeps to them: what lies in one row, column, block or diagonal
-- comes from one row, column, block or diagonal.

-- two places lie in one house of the puzzle
record AreTogether (p : Solo) (j k : ℕ) : Type 0 where
  house : NamedHouse
  house_of : IsSoloHouse p house
  first : lies_in_house p house j ≡ true
  second : lies_in_house p house k ≡ true

-- ---- diagonals
-- the diagonal that comes to a diagonal: by one flip alone the other
diagonal_from : Bool → Bool → ℕ → ℕ
diagonal_from true true d = d
diagonal_from true false d = 1 - d
diagonal_from false true d = 1 - d
diagonal_from false false d = d

diagonal_from-few : (across down : Bool) {d : ℕ} → d < 2 → diagonal_from across down d < 2
unfolding diagonal_from
diagonal_from-few across down few = grind arith

-- the cell in column x of row y is on the diagonal
abbrev on_diagonal : ℕ → ℕ → ℕ → ℕ → Type 0
on_diagonal n d x y = x ≡ (if eqb d 0 then y else n - 1 - y)

diagonal_is : (across down : Bool) {n d x y : ℕ} → d < 2 → x < n → y < n → on_diagonal n d x y
    → on_diagonal n (diagonal_from across down d) (line_from across n x) (line_from down n y)
unfolding diagonal_from
diagonal_is across down few lx ly on = grind arith

module _ (p : Solo) (c_low : 0 < p.c) (r_low : 0 < p.r) (across down : Bool) where
  abbrev from : ℕ → ℕ
  from place = flipped_from (solo_n p) across down place

  turned : p.r * p.c ≡ solo_n p
  turned = omega arith

  some_numbers : 0 < solo_n p
  some_numbers = mul-pos c_low r_low

  module _ {place : ℕ} (within : place < solo_cells p) where
    row : row_of p (from place) ≡ line_from down (solo_n p) (row_of p place)
    row = from_row (solo_n p) across down place within

    column : column_of p (from place) ≡ line_from across (solo_n p) (column_of p place)
    column = from_column (solo_n p) across down place within

    row_below : row_of p place < solo_n p
    row_below = div_below place (solo_n p) (solo_n p) some_numbers within

    column_below : column_of p place < solo_n p
    column_below = mod_below place (solo_n p) some_numbers

    in_diagonal : {d : ℕ} → d < 2 → lies_in_house p (Diagonal d) place ≡ true → lies_in_house p (Diagonal (diagonal_from across down d)) (from place) ≡ true
    in_diagonal few on = eq-eqb _ _
        (rw (row, column) (diagonal_is across down few column_below row_below (eqb-true _ _ on)))

  block_in : {place : ℕ} → place < solo_cells p → block_of p place < solo_n p
  block_in {place} within =
      mul-add-lt _ p.c _ p.r
      (div_below _ p.c p.r c_low (let low = row_below within in omega (arith, low, turned)))
      (div_below _ p.r p.c r_low (column_below within))

  same_block : (j k : ℕ) → j < solo_cells p → k < solo_cells p → block_of p j ≡ block_of p k → block_of p (from j) ≡ block_of p (from k)
  same_block j k lj lk e =
      let parts = same_from_place (row_of p j / p.c) (column_of p j / p.r) (row_of p k / p.c) (column_of p k / p.r) p.c
      (div_below (column_of p j) p.r p.c r_low (column_below lj)) (div_below (column_of p k) p.r p.c r_low (column_below lk)) e in
      let band = line_from-together down p.r (sym turned) c_low (row_below lj) (row_below lk) parts.0 in
      let stack = line_from-together across p.c refl r_low (column_below lj) (column_below lk) parts.1 in
      rw (row lj, row lk, column lj, column lk, band, stack) refl

  together : (house : NamedHouse) → IsSoloHouse p house → {j k : ℕ} → j < solo_cells p → k < solo_cells p → lies_in_house p house j ≡ true → lies_in_house p house k ≡ true
      → AreTogether p (from j) (from k)
  together (Row y) is lj lk a b = record {
    house = Row (line_from down (solo_n p) y);
    house_of = line_from-below down is;
    first = grind (arith, row lj);
    second = grind (arith, row lk);
  }
  together (Column x) is lj lk a b = record {
    house = Column (line_from across (solo_n p) x);
    house_of = line_from-below across is;
    first = grind (arith, column lj);
    second = grind (arith, column lk);
  }
  together (Block n) is {j} {k} lj lk a b = record {
    house = Block (block_of p (from j));
    house_of = block_in (from_below (solo_n p) across down j lj);
    first = eq-eqb _ _ refl;
    second = eq-eqb _ _ (sym (same_block j k lj lk (eqb-true _ _ a ∙ sym (eqb-true _ _ b))));
  }
  together (Diagonal d) is lj lk a b = record {
    house = Diagonal (diagonal_from across down d);
    house_of = (diagonal_from-few across down is.0, is.1);
    first = in_diagonal lj is.0 a;
    second = in_diagonal lk is.0 b;
  }

-- ---- grids
given_itself : (c r : ℕ) (x : Bool) (g : List ℕ) (place : ℕ) → place < length g → slice_index g place + 1 ≡ slice_index (all_given c r x g).givens place
given_itself c r x g place within = grind (arith, get_or-map)

-- the flipped grid solves the puzzle that gives all its cells
pub flipped-solution : (c r : ℕ) (x : Bool) (givens g : List ℕ) → 0 < c → 0 < r → (across down : Bool) → IsSoloSolution (solo_puzzle c r x givens) g
    → IsSoloSolution (all_given c r x (flipped (c * r) across down g)) (flipped (c * r) across down g)
flipped-solution c r x givens g c_low r_low across down s = record {
  grid = flipped-grid (c * r) across down g s.grid;
  givens = λ place lt low. given_itself c r x (flipped (c * r) across down g) place (omega (arith, length-flipped (c * r) across down g));
  different = λ house is j k lj lk ne a b e.
      let n = c * r in
      let all = all_given c r x (flipped n across down g) in
      let same = together (solo_puzzle c r x givens) c_low r_low across down house (house_stays all givens house is) lj lk
      (sym (lies_alike all givens house j) ∙ a) (sym (lies_alike all givens house k) ∙ b) in
      s.different same.house same.house_of (flipped_from n across down j) (flipped_from n across down k)
      (from_below n across down j lj) (from_below n across down k lk) (λ f. ne (from_apart n across down j k lj lk f))
      same.first same.second (sym (flipped-at n across down j lj g) ∙ e ∙ flipped-at n across down k lk g);
}

-- What the search of a top row gives: the first grid of the verdict, which keeps to the rules of Solo X.

-- the store lends the first grid of what the search says
pub first_is : (answer : Verdict) {first : Option (List ℕ)} (second : Option (List ℕ)) (said : Outcome)
    → IsAnswer answer first second said → first ≡ first_grid said
first_is answer second said is = grind arith

-- and that grid is a solution
pub first_solves : (p : RuleSystem) (said : Outcome) → IsTrueOf p said → IfSome (first_grid said) (Solves p)
first_solves p NoSolution is = tt
first_solves p (OneSolution first) is = is.0
first_solves p (SeveralSolutions first second) is = is.0
first_solves p (GaveUp None) is = tt
first_solves p (GaveUp (Some first)) is = is

pub found_solves : (p : RuleSystem) {found first : Option (List ℕ)} (second : Option (List ℕ)) (answer : Verdict) (said : Outcome) → found ≡ first
    → IsAnswer answer first second said → IsTrueOf p said
    → IfSome found (Solves p)
found_solves p second answer said lent is true_of = grind (arith, common_steps, first_is, first_solves)

-- ---- the top row
pub room : (c r : ℕ) → IsSoloSize c r → c * r ≤ (c * r) * (c * r)
room c r size = grind (arith, common_steps, mul-le)

module _ (c r : ℕ) (numbers : List ℕ) (size : IsSoloSize c r) (order : IsOrder (c * r) numbers) where
  abbrev rest : ℕ
  rest = (c * r) * (c * r) - c * r

  row_long : length (map suc numbers) ≡ c * r
  row_long = length-map numbers suc ∙ order.len

  pub top-solo : IsSolo (top_row_given c r numbers)
  top-solo = record {
    c_low = size.c_low;
    r_low = size.r_low;
    n_high = size.n_high;
    cells = grind (arith, common_steps, row_long, room c r size);
    range = recursion_from_All (λ v. v ≤ c * r) (map suc numbers ++ replicate rest 0)
        (All-append (λ v. v ≤ c * r) (map suc numbers) (replicate rest 0)
        (All-map (λ v. v ≤ c * r) suc numbers (All-from_get_or (λ v. suc v ≤ c * r) numbers 0 (λ k lt. grind (arith, order.len, order.within k))))
        (All-replicate (λ v. v ≤ c * r) rest 0 (omega arith)));
  }

  pub top-all : (p : Solo) (k : ℕ) → p ≡ given_first c r true numbers k → k ≡ length numbers → p ≡ top_row_given c r numbers
  top-all p k is all = grind (arith, common_steps)

  -- the flipped grid keeps to the rules
  pub flipped-found : (found : Option (List ℕ)) (t : Stream) → IfSome found (Solves (houses_rules (top_row_given c r numbers)))
      → IfSome (flipped_by_draw (c * r) found t).0 (λ g. IsSoloSolution (all_given c r true g) g)
  flipped-found None t s = tt
  flipped-found (Some g) t s =
      let solution = rule_from_test (top_row_given c r numbers) top-solo g s.grid s.good in
      flipped-solution c r true _ g (omega (arith, size.c_low)) (omega (arith, size.r_low)) _ _ solution

-- ---- the filling
pub x-filling-is : {c r : ℕ} (budget : ℕ) {n : ℕ} (s : Stream) {t u : Stream} {numbers : List ℕ} {p : Solo} {q : RuleSystem}
    {found filling : Option (List ℕ)} → n ≡ c * r
    → (numbers, t) ≡ shuffled_order n s → p ≡ top_row_given c r numbers → q ≡ houses_rules p
    → found ≡ first_grid (verdict_of q budget)
    → (filling, u) ≡ flipped_by_draw n found t → (filling, u) ≡ x_filling c r budget s
x-filling-is {c} {r} budget {n} s {t} is drawn top rules first flipped =
    rw (sym (rw is at drawn)) (rw is at (flipped ∙ ap (λ f. flipped_by_draw n f t)
    (first ∙ ap (λ z. first_grid (verdict_of z budget)) (rules ∙ ap houses_rules top))))

-- what is there of the filling keeps to the rules
pub x-filling-solves : {c r n : ℕ} (t : Stream) {u : Stream} {numbers : List ℕ} {p : Solo} {q : RuleSystem} (found filling : Option (List ℕ))
    → IsSoloSize c r → IsOrder (c * r) numbers → n ≡ c * r
    → p ≡ top_row_given c r numbers → q ≡ houses_rules p → IfSome found (Solves q)
    → (filling, u) ≡ flipped_by_draw n found t → IfSome filling (λ g. IsSoloSolution (all_given c r true g) g)
x-filling-solves {c} {r} t {numbers} found filling size order is top rules solves flipped =
    rw (ap (λ z. z.0) (rw is at flipped)) (flipped-found c r numbers size order found t (rw (rules, top) at solves))

-- what the writing of the top row cites
pub ruleset top_laws = (written, top-all, room)
