-- Laws of the houses: each has n different places of the grid, exactly those that lie in it.
use Rattle.std.proofs.lemmas.Grind.{common_steps}
use Rattle.std.proofs.Common.{◌≡◌, ℕ, ◌+◌, ◌*◌, ◌/◌, ◌%◌, ◌<◌, Bool, true, false, eqb, List, [], ◌∷◌, map, length, slice_index, if◌then◌else◌, refl, sym, ap, ◌∙◌, inl, inr, arith, All, ◌↔◌, IsTrue}
use Rattle.solo_core.specs.Common.{has_place, has_place-at, has_place-here, range_with_len, cases_lt, cases_Bool, eq-eqb, eqb-true, true≢false, false_from_ne_true, mul-add-lt, mul-le, div-mul-add, mod-mul-add, div_below, mod_below, div-add-mod', All-append, All-nil, All-cons, get_or-map-range_with_len, length-map-range_with_len, Solo, IsSolo, solo_n, AreDifferent, NamedHouse, Row, Column, Block, Diagonal, solo_cells, houses_of, IsSoloHouse, lies_in_house, places_of}
use Rattle.grid_core.specs.Regions.{block_places}
use Rattle.grid_core.proofs.RegionLemmas.{block-within}
use Rattle.engine_core.specs.PlaceLaws.{of_first, of_rest, of_value}

-- the list has n different places below `cells`, which are those that pass the test
pub record Lists (places : List ℕ) (n cells : ℕ) (lies : ℕ → Bool) : Type 0 where
  pub len : length places ≡ n
  pub within : (k : ℕ) → k < n → slice_index places k < cells
  pub lies_at : (k : ℕ) → k < n → lies (slice_index places k) ≡ true
  pub index : ℕ → ℕ
  pub index_of : (k : ℕ) → k < n → index (slice_index places k) ≡ k
  pub index_in : (place : ℕ) → place < cells → index place < n
  pub covers : (place : ℕ) → place < cells → lies place ≡ true → slice_index places (index place) ≡ place

by_function : (f index : ℕ → ℕ) {n cells : ℕ} {lies : ℕ → Bool}
    → ((k : ℕ) → k < n → f k < cells)
    → ((k : ℕ) → k < n → lies (f k) ≡ true)
    → ((k : ℕ) → k < n → index (f k) ≡ k)
    → ((place : ℕ) → place < cells → index place < n)
    → ((place : ℕ) → place < cells → lies place ≡ true → f (index place) ≡ place)
    → Lists (map f (range_with_len 0 n)) n cells lies
by_function f index {n} {lies} within lies_at back index_in covers = record {
  len = length-map-range_with_len f 0 n;
  within = λ k lt. rw (at k lt) (within k lt);
  lies_at = λ k lt. ap lies (at k lt) ∙ lies_at k lt;
  index = index;
  index_of = λ k lt. ap index (at k lt) ∙ back k lt;
  index_in = index_in;
  covers = λ place lt on. at (index place) (index_in place lt) ∙ covers place lt on;
}
  where
    at : (k : ℕ) → k < n → slice_index (map f (range_with_len 0 n)) k ≡ f k
    at k lt = get_or-map-range_with_len f 0 n k k 0 lt (omega arith)

-- ---- lines of a square grid
row_lists : (n y : ℕ) → y < n → Lists (map (λ x. y * n + x) (range_with_len 0 n)) n (n * n) (λ place. eqb (place / n) y)
row_lists n y lt = by_function (λ x. y * n + x) _ (λ k l. mul-add-lt y n k n lt l)
    (λ k l. eq-eqb _ y (div-mul-add y n k l)) (λ k l. mod-mul-add y n k l)
    (λ place l. mod_below place n (omega arith))
    (λ place l on. ap (λ u. u * n + place % n) (sym (eqb-true (place / n) y on)) ∙ div-add-mod' place n)

-- a line that has one cell in each row: in row y that in column f y
falling_lists : {n : ℕ} (f : ℕ → ℕ) → 0 < n → ((y : ℕ) → y < n → f y < n)
    → Lists (map (λ y. y * n + f y) (range_with_len 0 n)) n (n * n)
    (λ place. eqb (place % n) (f (place / n)))
falling_lists {n} f pos f_in = by_function _ _ (λ k l. mul-add-lt k n (f k) n l (f_in k l))
    (λ k l. eq-eqb _ _ (mod-mul-add k n (f k) (f_in k l) ∙ ap f (sym (div-mul-add k n (f k) (f_in k l)))))
    (λ k l. div-mul-add k n (f k) (f_in k l))
    (λ place l. div_below place n n (omega arith) l)
    (λ place l on. ap (λ c. place / n * n + c) (sym (eqb-true (place % n) _ on)) ∙ div-add-mod' place n)

-- ---- blocks, r wide and c tall
module _ (c r b : ℕ) (c_pos : 0 < c) (r_pos : 0 < r) (b_in : b < c * r) where
  abbrev x_of : ℕ → ℕ
  x_of k = (b % c) * r + k % r

  abbrev y_of : ℕ → ℕ
  y_of k = (b / c) * c + k / r

  tall : (k : ℕ) → k < c * r → k / r < c
  tall k l = div_below k r c r_pos l

  turned : c * r ≡ r * c
  turned = omega arith

  fits : {a z : ℕ} → a < c → z < r → a * r + z < c * r
  fits {a} {z} p q = rw turned (mul-add-lt a r z c p q)

  x_in : (k : ℕ) → x_of k < c * r
  x_in k = fits (mod_below b c c_pos) (mod_below k r r_pos)

  here : {k : ℕ} → k < c * r → ((y_of k * (c * r) + x_of k) / (c * r) ≡ y_of k) × ((y_of k * (c * r) + x_of k) % (c * r) ≡ x_of k)
  here {k} l = grind (arith, common_steps, div-mul-add, x_in, mod-mul-add)

  block_at : ℕ → ℕ
  block_at place = ((place / (c * r)) / c) * c + (place % (c * r)) / r

  index_at : ℕ → ℕ
  index_at place = ((place / (c * r)) % c) * r + (place % (c * r)) % r

  in_block : (k : ℕ) → k < c * r → block_at (y_of k * (c * r) + x_of k) ≡ b
  unfolding block_at
  in_block k l = grind (arith, common_steps, here, div-mul-add, tall, mod_below, div-add-mod')

  at_index : (k : ℕ) → k < c * r → index_at (y_of k * (c * r) + x_of k) ≡ k
  unfolding index_at
  at_index k l = grind (arith, common_steps, here, mod-mul-add, tall, mod_below, div-add-mod')

  index_below : (place : ℕ) → index_at place < c * r
  unfolding index_at
  index_below place = fits (mod_below _ c c_pos) (mod_below _ r r_pos)

  pos : 0 < c * r
  pos = omega arith

  covered : {place : ℕ} → block_at place ≡ b → y_of (index_at place) * (c * r) + x_of (index_at place) ≡ place
  unfolding block_at index_at
  covered {place} e =
      let y = place / (c * r) in
      let x = place % (c * r) in
      let x_low = div_below x r c r_pos (mod_below place (c * r) pos) in
      let band_is = ap (λ k. k / c) (sym e) ∙ div-mul-add (y / c) c (x / r) x_low in
      let stack_is = ap (λ k. k % c) (sym e) ∙ mod-mul-add (y / c) c (x / r) x_low in
      let low = mod_below x r r_pos in
      let tall_is = div-mul-add (y % c) r (x % r) low in
      let wide_is = mod-mul-add (y % c) r (x % r) low in
      rw (band_is, stack_is, tall_is, wide_is, div-add-mod' y c, div-add-mod' x r) (div-add-mod' place (c * r))

  -- a cell of the block stands in it by its row and its column there
  pub block-holds : (place : ℕ) → place / (c * r) / c * c + place % (c * r) / r ≡ b
      → slice_index (block_places c r b) (place / (c * r) % c * r + place % (c * r) % r) ≡ place
  unfolding block_at index_at
  block-holds place e =
      let k = place / (c * r) % c * r + place % (c * r) % r in
      get_or-map-range_with_len _ 0 (c * r) k k 0 (index_below place) (omega arith) ∙ covered e

  block_lists : Lists (block_places c r b) (c * r) ((c * r) * (c * r)) (λ place. eqb (block_at place) b)
  block_lists = by_function _ index_at (λ k l. block-within c r b k b_in l)
      (λ k l. eq-eqb _ b (in_block k l)) (λ k l. at_index k l) (λ place l. index_below place)
      (λ place l on. covered (eqb-true _ b on))

-- ---- the houses of a puzzle
pub some_numbers : {p : Solo} → IsSolo p → 0 < solo_n p
some_numbers {p} ok = omega (arith, mul-le 1 1 p.c p.r (omega arith) (omega arith))

pub lists_house : {p : Solo} → IsSolo p → (house : NamedHouse) → IsSoloHouse p house → Lists (places_of p house) (solo_n p) (solo_cells p) (lies_in_house p house)
unfolding block_at
lists_house {p} ok (Row y) lt = row_lists (solo_n p) y lt
lists_house ok (Column i) lt = falling_lists (λ y. i) (some_numbers ok) (λ y l. lt)
lists_house {p} ok (Block b) lt = let c_low = ok.c_low in let r_low = ok.r_low in block_lists p.c p.r b (omega arith) (omega arith) lt
lists_house {p} ok (Diagonal d) lt = falling_lists _ (some_numbers ok) (λ y l. elim (cases_Bool (eqb d 0)) [
  | inl first ↦ rw first l
  | inr second ↦ rw second (omega arith)
])

-- the list of a function's values, each of which keeps to something
pub each_value : {X : Type 0} (P : X → Type 0) (f : ℕ → X) (n : ℕ) → ((k : ℕ) → k < n → P (f k)) → All P (map f (range_with_len 0 n))
each_value P f n each k d lt = grind (arith, common_steps, length-map-range_with_len, get_or-map-range_with_len)

-- they are the puzzle's, and all of them
pub all_houses : (p : Solo) → All (IsSoloHouse p) (houses_of p)
all_houses p =
    All-append (IsSoloHouse p) _ _ (each_value (IsSoloHouse p) Row (solo_n p) (λ k lt. lt))
    (All-append (IsSoloHouse p) _ _ (each_value (IsSoloHouse p) Column (solo_n p) (λ k lt. lt))
    (All-append (IsSoloHouse p) _ _ (each_value (IsSoloHouse p) Block (solo_n p) (λ k lt. lt)) (all_diagonals p.x refl)))
  where
    all_diagonals : (x : Bool) → p.x ≡ x → All (IsSoloHouse p) (if x then Diagonal 0 ∷ Diagonal 1 ∷ [] else [])
    all_diagonals true e = All-cons (IsSoloHouse p) (Diagonal 0) (Diagonal 1 ∷ []) (omega arith, e) (All-cons (IsSoloHouse p) (Diagonal 1) [] (omega arith, e) (All-nil (IsSoloHouse p)))
    all_diagonals false e = All-nil (IsSoloHouse p)

-- what holds of each house of the list holds of each house of the puzzle
pub each_house : (p : Solo) (P : NamedHouse → Type 0) → All P (houses_of p) → (house : NamedHouse) → IsSoloHouse p house → P house
each_house p P all (Row y) lt = of_value P Row (solo_n p) (of_first P _ _ all) y lt
each_house p P all (Column i) lt = of_value P Column (solo_n p) (of_first P _ _ (of_rest P _ _ all)) i lt
each_house p P all (Block b) lt = of_value P Block (solo_n p) (of_first P (map Block (range_with_len 0 (solo_n p))) _
    (of_rest P (map Column (range_with_len 0 (solo_n p))) _ (of_rest P _ _ all))) b lt
each_house p P all (Diagonal d) (lt, is) =
    let last = rw is at (of_rest P (map Block (range_with_len 0 (solo_n p))) _
    (of_rest P (map Column (range_with_len 0 (solo_n p))) _ (of_rest P (map Row (range_with_len 0 (solo_n p))) _ all))) in
    elim (cases_lt d 1) [
      | inl first ↦ let e : 0 ≡ d = omega arith in rw e at (last 0 (Diagonal 0) (omega arith))
      | inr second ↦ let e : 1 ≡ d = omega arith in rw e at (last 1 (Diagonal 0) (omega arith))
    ]

-- ---- places of a list
module _ {places : List ℕ} {n cells : ℕ} {lies : ℕ → Bool} (l : Lists places n cells lies) where
  pub listed-within : (k : ℕ) → k < length places → slice_index places k < cells
  listed-within k lt = let e = l.len in l.within k (omega arith)

  pub listed-different : AreDifferent places
  listed-different j k lj lk e = grind (arith, common_steps)

  -- a place is in the list where it passes the test
  pub listed-has : {place : ℕ} → place < cells → (IsTrue (has_place places place)) ↔ (IsTrue (lies place))
  listed-has {place} lt = grind (arith, common_steps, has_place-at, has_place-here)

-- a test of places is that of their list
pub listed-same : {places : List ℕ} {n cells : ℕ} {lies : ℕ → Bool} → Lists places n cells lies
    → {place : ℕ} → place < cells → lies place ≡ has_place places place
listed-same {places} {lies} l {place} lt = elim (cases_Bool (lies place)) [
  | inl on ↦ on ∙ sym ((listed-has l lt).1 on)
  | inr off ↦ off ∙ sym (false_from_ne_true (has_place places place) (λ has. true≢false (sym ((listed-has l lt).0 has) ∙ off)))
]

-- ---- a block and a line of the puzzle
module _ {p : Solo} (ok : IsSolo p) where
  pub row_in : (m : ℕ) → m < solo_n p * p.c → (m / p.c < solo_n p) × (m / p.c / p.c * p.c + m % p.c < solo_n p)
  row_in m lt =
      let low = ok.c_low in
      let pos : 0 < p.c = omega arith in
      let b = div_below m p.c (solo_n p) pos lt in
      let w = mul-add-lt _ p.c (m % p.c) p.r (div_below (m / p.c) p.c p.r pos (omega arith)) (mod_below m p.c pos) in
      (b, omega arith)

  pub column_in : (m : ℕ) → m < solo_n p * p.r → (m / p.r < solo_n p) × (m / p.r % p.c * p.r + m % p.r < solo_n p)
  column_in m lt =
      let low = ok.c_low in
      let low_r = ok.r_low in
      let pos : 0 < p.c = omega arith in
      let pos_r : 0 < p.r = omega arith in
      let b = div_below m p.r (solo_n p) pos_r lt in
      let w = mul-add-lt _ p.r (m % p.r) p.c (mod_below (m / p.r) p.c pos) (mod_below m p.r pos_r) in
      (b, omega arith)
