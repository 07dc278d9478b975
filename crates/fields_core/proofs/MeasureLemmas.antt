-- What is counted of houses: how many there are, and how long the longest is.
use Rattle.fields_core.proofs.Common.{AddsHouses, AllByRecursion, Black, CountHouse, IsMeasured, IsTents, Light, LightCell, List, Measured, Numbered, Some, Tents, White, [], add-one, any_below, ap, arith, asks, cases_Bool, cases_lt, column_house, common_steps, column_of_tents, column_places, cond, count_below, count_house_of, exactly, false, filter, get_or, houses_below, inl, inr, is_white, length, length-append, light_cells, light_houses, lit_house, lonely, longest, longest_of, max, min, mul-le-mul_right, not, number_house, one_at_most, refl, row_house, row_of_tents, row_places, slice_get, slice_index, square_house, steps, suc, sym, tent_cells, tent_houses, tree, tree_house, true, true≢false, white, zero, ℕ, ◌*◌, ◌++◌, ◌+◌, ◌-◌, ◌<◌, ◌||◌, ◌∙◌, ◌∷◌, ◌≡◌, ◌≤◌}
use Rattle.fields_core.specs.LightHouses.{numbered}
use Rattle.fields_core.proofs.BesideLemmas.{steps-few}
use Rattle.fields_core.proofs.HouseLemmas.{all-append, all-houses, all-if, below-more, cell-at, column-long, row-long}
use Rattle.fields_core.proofs.PlaceLists.{filter-few}
use Rattle.fields_core.proofs.TentLines.{square-none, square-there}
use Rattle.fields_core.proofs.VisitLemmas.{IsAmong, among-back, among-below, among-front, among-one}

-- The longest of a list of houses.
shifted : (f : ℕ → List ℕ) (n : ℕ) → longest f (suc n) ≡ max (length (f 0)) (longest (λ h. f (suc h)) n)
unfolding longest
shifted f zero = omega arith
shifted f (suc n) = omega (arith, shifted f n)

pub longest-is : (houses : List CountHouse) → longest_of houses ≡ longest (λ h. (count_house_of houses h).places) (length houses)
unfolding longest
longest-is [] = refl
longest-is (house ∷ houses) =
    ap (max (length house.places)) (longest-is houses) ∙ sym (shifted (λ h. (count_house_of (house ∷ houses) h).places) (length houses))

longest-append : (xs ys : List CountHouse) → longest_of (xs ++ ys) ≡ max (longest_of xs) (longest_of ys)
longest-append [] ys = omega arith
longest-append (x ∷ xs) ys = omega (arith, longest-append xs ys)

most : {n : ℕ} (houses : List CountHouse) → AllByRecursion (λ house. length house.places ≤ n) houses → longest_of houses ≤ n
most [] all = omega arith
most (house ∷ houses) all = omega (arith, all.0, most houses all.1)

least : {house : CountHouse} (houses : List CountHouse) → IsAmong house houses → length house.places ≤ longest_of houses
least {house} houses among = by houses among.number among.within among.is
  where
    by : (houses : List CountHouse) (h : ℕ) → h < length houses → count_house_of houses h ≡ house → length house.places ≤ longest_of houses
    by [] h lt e = absurd (omega (arith, lt))
    by (other ∷ houses) zero lt e = omega (arith, ap (λ (one : CountHouse). length one.places) e)
    by (other ∷ houses) (suc h) lt e = omega (arith, by houses h (omega (arith, lt)) e)

-- ---- the houses of one number more
long-more : (f : ℕ → List CountHouse) (n : ℕ) → length (houses_below f (n + 1)) ≡ length (houses_below f n) + length (f n)
long-more f n = rw (below-more f n) (length-append (houses_below f n) (f n))

longest-next : (f : ℕ → List CountHouse) (n : ℕ) → longest_of (houses_below f (n + 1)) ≡ max (longest_of (houses_below f n)) (longest_of (f n))
longest-next f n = rw (below-more f n) (longest-append (houses_below f n) (f n))

-- What a walk over the cells counts of Light Up.
pub adds-none : (m : Measured) {houses : List CountHouse} → houses ≡ [] → AddsHouses houses m m
adds-none m e = rw e (record { houses_are = omega arith; longest_is = omega arith })

-- the houses that the first n places tell
abbrev pub lights_below : Light → ℕ → List CountHouse
lights_below p n =
    houses_below (number_house p) n ++ (houses_below (row_house p) n ++ (houses_below (column_house p) n ++ houses_below (lit_house p) n))

lights-long : (p : Light) (n : ℕ) → length (lights_below p n) ≡ length (houses_below (number_house p) n) + (length (houses_below (row_house p) n)
    + (length (houses_below (column_house p) n) + length (houses_below (lit_house p) n)))
lights-long p n = grind (arith, common_steps, length-append)

lights-longest : (p : Light) (n : ℕ) → longest_of (lights_below p n) ≡ max (longest_of (houses_below (number_house p) n)) (max (longest_of (houses_below (row_house p) n))
    (max (longest_of (houses_below (column_house p) n)) (longest_of (houses_below (lit_house p) n))))
lights-longest p n = grind (arith, common_steps, longest-append)

-- ---- the longest of eight numbers, in two orders
crossed : (a b c d : ℕ) → max (max a b) (max c d) ≡ max (max a c) (max b d)
crossed a b c d = omega arith

joined : (a b c : ℕ) → max (max a b) c ≡ max a (max b c)
joined a b c = omega arith

widened : (a b c d e f g h : ℕ) {m x y z w : ℕ} → m ≡ max a (max b (max c d)) → x ≡ max m e → y ≡ max x f → z ≡ max y g → w ≡ max z h
    → w ≡ max (max a e) (max (max b f) (max (max c g) (max d h)))
widened a b c d e f g h first second third fourth last =
    rw (crossed c g d h, crossed b f (max c d) (max g h), crossed a e (max b (max c d)) (max f (max g h)), last, fourth, third, second, first)
    (joined (max (max (max a (max b (max c d))) e) f) g h ∙ joined (max (max a (max b (max c d))) e) f (max g h) ∙ joined (max a (max b (max c d))) e (max f (max g h)))

-- these and no others were counted, few for each place
pub record AreCounted (p : Light) (n : ℕ) (m : Measured) : Type 0 where
  pub are : IsMeasured (lights_below p n) m
  pub unmet : m.unmet ≡ any_below (lonely p) n
  pub few : m.houses ≤ 4 * n

pub counted-none : (p : Light) {m : Measured} → IsMeasured [] m → m.unmet ≡ false → AreCounted p 0 m
unfolding houses_below any_below
counted-none p none content = record { are = none; unmet = content; few = omega (arith, none.houses_are) }

pub counted-more : {p : Light} {n : ℕ} {m a b c d : Measured} → AreCounted p n m → AddsHouses (number_house p n) m a → AddsHouses (row_house p n) a b
    → AddsHouses (column_house p n) b c → AddsHouses (lit_house p n) c d → d.unmet ≡ (m.unmet || lonely p n) → d.houses ≤ m.houses + 4 → AreCounted p (n + 1) d
unfolding any_below
counted-more {p} {n} i first second third last unmet few = grind (arith, common_steps, lights-long, long-more, widened, lights-longest, longest-next, add-one)

pub counted-all : {p : Light} {n : ℕ} {m : Measured} → AreCounted p n m → n ≡ light_cells p → IsMeasured (light_houses p) m
unfolding light_houses
counted-all i e = rw e at i.are

-- ---- a white cell has no number, and a black one tells no other house
cell-unnumbered : (cell : LightCell) (places : List ℕ) → is_white cell ≡ true → (numbered cell places ≡ []) × (asks cell ≡ false)
cell-unnumbered White places on = (refl, refl)
cell-unnumbered Black places on = absurd (true≢false (sym on))
cell-unnumbered (Numbered n) places on = absurd (true≢false (sym on))

pub white-unnumbered : (p : Light) (c : ℕ) → white p c ≡ true → number_house p c ≡ []
unfolding white
white-unnumbered p c on = (cell-unnumbered (get_or p.cells c Black) (filter (white p) (steps p.size c 4)) on).0

pub white-content : (p : Light) (c : ℕ) → white p c ≡ true → lonely p c ≡ false
unfolding white
white-content p c on = rw (cell-unnumbered (get_or p.cells c Black) [] on).1 refl

-- ---- a cell with no number asks for nothing
pub unasked : (p : Light) (c : ℕ) (cell : LightCell) → slice_get p.cells c ≡ Some cell → ((n : ℕ) → cell ≡ Numbered n → ⊥) → lonely p c ≡ false
unasked p c White e other = rw (cell-at p c e) refl
unasked p c Black e other = rw (cell-at p c e) refl
unasked p c (Numbered n) e other = absurd (other n refl)

-- What is counted of Tents.
ones : (f : ℕ → List CountHouse) (n : ℕ) → ((k : ℕ) → length (f k) ≡ 1) → length (houses_below f n) ≡ n
unfolding houses_below
ones f zero one = refl
ones f (suc n) one = omega (arith, length-append (houses_below f n) (f n), ones f n one, one n)

trees : (p : Tents) (n : ℕ) → length (houses_below (tree_house p) n) ≡ count_below (tree p) n
unfolding houses_below count_below
trees p zero = refl
trees p (suc n) = grind (arith, common_steps, cases_Bool (tree p n), length-append (houses_below (tree_house p) n) (tree_house p n), trees p n)

pub trees-none : (p : Tents) → count_below (tree p) 0 ≡ 0
unfolding count_below
trees-none p = refl

pub trees-more : (p : Tents) (n : ℕ) → count_below (tree p) (n + 1) ≡ count_below (tree p) n + cond (tree p n) 1 0
unfolding count_below
trees-more p n = rw add-one refl

abbrev squares : Tents → ℕ → ℕ
squares p n = length (houses_below (square_house p) n)

-- a row has one square less than cells, but for the last row
row-squares : (p : Tents) (y x : ℕ) → x ≤ p.size.w → y + 1 < p.size.h → squares p (y * p.size.w + x) ≡ squares p (y * p.size.w) + min x (p.size.w - 1)
row-squares p y zero le low = let e : y * p.size.w + 0 ≡ y * p.size.w = omega arith in rw e (omega arith)
row-squares p y (suc x) le low =
    let e : y * p.size.w + suc x ≡ y * p.size.w + x + 1 = omega arith in
    rw e (elim (cases_lt (x + 1) p.size.w) [
      | inl there ↦ omega (arith, there, long-more (square_house p) (y * p.size.w + x), row-squares p y x (omega arith) low, ap length (square-there p y x there low))
      | inr last ↦ grind (arith, common_steps, long-more, square-none, row-squares p y x (omega arith) low)
    ])

last-squares : (p : Tents) (y x : ℕ) → x ≤ p.size.w → p.size.h ≤ y + 1 → squares p (y * p.size.w + x) ≡ squares p (y * p.size.w)
last-squares p y zero le low = let e : y * p.size.w + 0 ≡ y * p.size.w = omega arith in rw e refl
last-squares p y (suc x) le low =
    let e : y * p.size.w + suc x ≡ y * p.size.w + x + 1 = omega arith in
    rw e (omega (arith, long-more (square_house p) (y * p.size.w + x), last-squares p y x (omega arith) low, ap length (square-none p y x (omega arith) (λ _. low))))

some-squares : (p : Tents) (y : ℕ) → y < p.size.h → squares p (y * p.size.w) ≡ y * (p.size.w - 1)
unfolding houses_below
some-squares p zero lt = let e : 0 * p.size.w ≡ 0 = omega arith in rw e (omega arith)
some-squares p (suc y) lt =
    let e : suc y * p.size.w ≡ y * p.size.w + p.size.w = omega arith in
    rw e (omega (arith, row-squares p y p.size.w (omega arith) (omega (arith, lt)), some-squares p y (omega arith)))

all-squares : (p : Tents) → 1 ≤ p.size.h → squares p (tent_cells p) ≡ (p.size.h - 1) * (p.size.w - 1)
all-squares p some =
    let e : p.size.h ≡ p.size.h - 1 + 1 = omega arith in
    whole (p.size.h - 1) e
  where
    whole : (y : ℕ) → p.size.h ≡ y + 1 → squares p (tent_cells p) ≡ y * (p.size.w - 1)
    whole y e =
        let all : p.size.w * p.size.h ≡ y * p.size.w + p.size.w = rw e (omega arith) in
        rw all (last-squares p y p.size.w (omega arith) (omega (arith, e)) ∙ some-squares p y (omega (arith, e)))

module _ {p : Tents} (is : IsTents p) where
  abbrev columns : List CountHouse
  columns = houses_below (column_of_tents p) p.size.w

  abbrev rows : List CountHouse
  rows = houses_below (row_of_tents p) p.size.h

  abbrev others : List CountHouse
  others = houses_below (tree_house p) (tent_cells p) ++ houses_below (square_house p) (tent_cells p)

  tents-long : length (tent_houses p) ≡ p.size.w + p.size.h + (p.size.w - 1) * (p.size.h - 1) + count_below (tree p) (tent_cells p)
  unfolding tent_houses
  tents-long = omega (
    arith,
    length-append columns (rows ++ others),
    length-append rows others,
    length-append (houses_below (tree_house p) (tent_cells p)) (houses_below (square_house p) (tent_cells p)),
    ones (column_of_tents p) p.size.w (λ k. refl),
    ones (row_of_tents p) p.size.h (λ k. refl),
    trees p (tent_cells p),
    all-squares p is.size.extent.h_low,
  )

  abbrev Short : CountHouse → Type 0
  Short house = length house.places ≤ max (max p.size.w p.size.h) 4

  tents-most : longest_of (tent_houses p) ≤ max (max p.size.w p.size.h) 4
  unfolding tent_houses
  tents-most = most (tent_houses p) (
      all-append Short columns (rows ++ others) (all-houses Short (column_of_tents p) p.size.w (λ k lt. (omega (arith, column-long p.size k), tt)))
      (all-append Short rows others (all-houses Short (row_of_tents p) p.size.h (λ k lt. (omega (arith, row-long p.size k), tt)))
      (all-append Short (houses_below (tree_house p) (tent_cells p)) (houses_below (square_house p) (tent_cells p))
      (all-houses Short (tree_house p) (tent_cells p) (λ k lt. all-if Short (λ on. omega (arith, filter-few (λ d. not (tree p d)) (steps p.size k 4), steps-few p.size k 4))))
      (all-houses Short (square_house p) (tent_cells p) (λ k lt. all-if Short (λ on. omega arith)))))
      )

  tents-least : max (max p.size.w p.size.h) 4 ≤ longest_of (tent_houses p)
  unfolding tent_houses
  tents-least =
      let wide = is.size.w_two in let tall = is.size.h_two in
      let here = 0 * p.size.w + 0 in let some = mul-le-mul_right p.size.h wide in
      let square = one_at_most (here ∷ (here + 1) ∷ (here + p.size.w) ∷ (here + p.size.w + 1) ∷ []) in
      omega (
        arith,
        least (tent_houses p) (among-front (rows ++ others) (among-below (exactly (slice_index p.counts 0) (column_places p.size 0)) (column_of_tents p) {n = 0} (omega arith) (among-one _))),
        column-long p.size 0,
        least (tent_houses p) (among-back columns (among-front others (among-below (exactly (slice_index p.counts (p.size.w + 0)) (row_places p.size 0)) (row_of_tents p) {n = 0} (omega arith) (among-one _)))),
        row-long p.size 0,
        least (tent_houses p) (among-back columns (among-back rows (among-back (houses_below (tree_house p) (tent_cells p))
            (among-below square (square_house p) {n = here} (omega (arith, some, tall)) (rw (square-there p 0 0 (omega arith) (omega arith)) (among-one square)))))),
      )

  pub tents-measured : {m : Measured} → m.houses ≡ p.size.w + p.size.h + (p.size.w - 1) * (p.size.h - 1) + count_below (tree p) (tent_cells p)
      → m.longest ≡ max (max p.size.w p.size.h) 4 → IsMeasured (tent_houses p) m
  tents-measured many long = grind (arith, common_steps, tents-long, tents-most, tents-least)
