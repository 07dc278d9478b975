-- Count houses: lists, names and tallies of them.
use Rattle.fields_core.proofs.Common.{AllByRecursion, Black, Bool, Candidates, CountHouse, Extent, IsHouse, IsNext, IsTally, Light, LightCell, List, None, Numbered, Option, Segment, Some, Tally, White, [], add-one, any_below, ap, append-nil, ap₂, arith, at_drop_more, bool_byte, cases_Bool, column_places, common_steps, cond, cond-false, cond-true, count_by, count_by-le-length, count_house_of, div-mul-add, drop, drop_all, eq-eqb, eqb, eqb-true, exactly, false, false_from_ne_true, filter, filter-append, get_or, get_or-append_right, get_or-map-range_with_len, get_or_append_left, has_place, has_place-at, has_place-here, houses_below, if_there, is_empty, is_some, is_white, length, length-append, length-map-range_with_len, list_any, list_any-append, ltb, not, number_house, or_right, place-column, places_in_segments, refl, row_places, segment_places, set, slice_get, slice_get-get_or, slice_get_within, slice_index, step, steps, suc, sym, true, white, zero, ℕ, ◌&&◌, ◌*◌, ◌++◌, ◌+◌, ◌-◌, ◌<◌, ◌||◌, ◌∙◌, ◌∷◌, ◌≡◌, ◌≤◌}
use Rattle.fields_core.proofs.PlaceLists.{count-cons, num}

-- Lists of count houses, as they are made.
pub below-none : (f : ℕ → List CountHouse) → houses_below f 0 ≡ []
unfolding houses_below
below-none f = refl

pub below-more : (f : ℕ → List CountHouse) (n : ℕ) → houses_below f (n + 1) ≡ houses_below f n ++ f n
unfolding houses_below
below-more f n = rw add-one refl

-- ---- houses below a number
pub any-houses : (test : CountHouse → Bool) (f : ℕ → List CountHouse) (n : ℕ)
    → list_any test (houses_below f n) ≡ any_below (λ k. list_any test (f k)) n
unfolding houses_below any_below
any-houses test f zero = refl
any-houses test f (suc n) = list_any-append test (houses_below f n) (f n) ∙ ap (λ b. b || list_any test (f n)) (any-houses test f n)

pub all-append : (P : CountHouse → Type 0) (xs ys : List CountHouse) → AllByRecursion P xs → AllByRecursion P ys → AllByRecursion P (xs ++ ys)
all-append P [] ys first next = next
all-append P (x ∷ xs) ys (is, first) next = (is, all-append P xs ys first next)

pub all-houses : (P : CountHouse → Type 0) (f : ℕ → List CountHouse) (n : ℕ) → ((k : ℕ) → k < n → AllByRecursion P (f k)) → AllByRecursion P (houses_below f n)
unfolding houses_below
all-houses P f zero each = tt
all-houses P f (suc n) each = all-append P (houses_below f n) (f n) (all-houses P f n (λ k lt. each k (omega arith))) (each n (omega arith))

pub all-if : (P : CountHouse → Type 0) {b : Bool} {house : CountHouse} → (b ≡ true → P house) → AllByRecursion P (cond b (house ∷ []) [])
all-if P {b = true} is = (is refl, tt)
all-if P {b = false} is = tt

pub all-at : (P : CountHouse → Type 0) (houses : List CountHouse) {h : ℕ} → AllByRecursion P houses → h < length houses → P (count_house_of houses h)
all-at P [] all lt = absurd (omega arith)
all-at P (house ∷ houses) {h = zero} all lt = all.0
all-at P (house ∷ houses) {h = suc h} all lt = all-at P houses all.1 (omega arith)

-- Houses told by segments, and names of houses.

-- ---- the cells of a segment
pub segment-long : (s : Segment) → s.len ≡ length (segment_places s)
segment-long s = sym (length-map-range_with_len _ 0 s.len)

pub segment-at : (s : Segment) (k : ℕ) → k < length (segment_places s) → s.first + k * s.stride ≡ slice_index (segment_places s) k
segment-at s k lt = grind (arith, common_steps, segment-long, get_or-map-range_with_len, slice_index)

-- ---- the cells of the segments from a number on
pub places-more : (cells : List Segment) {i : ℕ} (d : Segment) → i < length cells
    → places_in_segments (drop i cells) ≡ segment_places (get_or cells i d) ++ places_in_segments (drop (i + 1) cells)
places-more cells {i} d lt = at_drop_more places_in_segments cells i d lt

pub places-last : (cells : List Segment) (i : ℕ) (d : Segment) → i < length cells → length cells ≤ i + 1
    → places_in_segments (drop i cells) ≡ segment_places (get_or cells i d)
places-last cells i d lt last = grind (arith, common_steps, places-more, append-nil)

-- the cell is in the first of them, or in a later one
pub place-here : (cells : List Segment) (i left : ℕ) (d : Segment) → i < length cells → left < length (segment_places (get_or cells i d))
    → slice_index (places_in_segments (drop i cells)) left ≡ slice_index (segment_places (get_or cells i d)) left
place-here cells i left d lt low = grind (arith, common_steps, places-more, get_or_append_left, slice_index)

pub place-later : (cells : List Segment) (i left : ℕ) (d : Segment) → i < length cells → length (segment_places (get_or cells i d)) ≤ left
    → slice_index (places_in_segments (drop i cells)) left ≡ slice_index (places_in_segments (drop (i + 1) cells)) (left - length (segment_places (get_or cells i d)))
place-later cells i left d lt low = grind (arith, common_steps, places-more, get_or-append_right, slice_index)

pub left-within : (cells : List Segment) (i left : ℕ) (d : Segment) → i < length cells → length (segment_places (get_or cells i d)) ≤ left
    → left < length (places_in_segments (drop i cells)) → left - length (segment_places (get_or cells i d)) < length (places_in_segments (drop (i + 1) cells))
left-within cells i left d lt low within = grind (arith, common_steps, places-more, length-append)

pub four-long : (cells : List Segment) (d : Segment) → length cells ≡ 4
    → (get_or cells 0 d).len + (get_or cells 1 d).len + (get_or cells 2 d).len + (get_or cells 3 d).len ≡ length (places_in_segments cells)
four-long cells d four =
    omega (arith, rest 0 (omega arith), rest 1 (omega arith), rest 2 (omega arith), ap length (places-last cells 3 d (omega arith) (omega arith)), segment-long (get_or cells 3 d))
  where
    rest : (i : ℕ) → i < length cells → length (places_in_segments (drop i cells)) ≡ (get_or cells i d).len + length (places_in_segments (drop (i + 1) cells))
    rest i lt = ap length (places-more cells d lt) ∙ length-append _ _ ∙ ap (λ n. n + length (places_in_segments (drop (i + 1) cells))) (sym (segment-long (get_or cells i d)))

-- ---- whether a cell is among some
pub has-next : (xs : List ℕ) (c : ℕ) (found : Option ℕ) → IsNext (λ k. eqb (slice_index xs k) c) (length xs) 0 found → is_some found ≡ has_place xs c
has-next xs c (Some k) next = sym (rw (eqb-true _ _ next.2) at (has_place-here xs k next.1))
has-next xs c None none = grind (arith, common_steps, false_from_ne_true, has_place-at, eq-eqb)

-- ---- segments of which those from a number on are empty
none-left : (cells : List Segment) (d : Segment) → ((k : ℕ) → k < length cells → segment_places (get_or cells k d) ≡ []) → places_in_segments cells ≡ []
none-left [] d none = refl
none-left (c ∷ cells) d none = rw (none 0 (omega arith)) (none-left cells d (λ k lt. none (suc k) (omega arith)))

pub places-set : (cells : List Segment) (i : ℕ) (s d : Segment) → i < length cells
    → ((k : ℕ) → i ≤ k → k < length cells → segment_places (get_or cells k d) ≡ []) → places_in_segments (set cells i s) ≡ places_in_segments cells ++ segment_places s
places-set [] i s d lt none = absurd (omega arith)
places-set (c ∷ cells) zero s d lt none =
    rw (none 0 (omega arith) (omega arith), none-left cells d (λ k low. none (suc k) (omega arith) (omega arith))) (append-nil (segment_places s))
places-set (c ∷ cells) (suc i) s d lt none = grind (arith, common_steps, places-set cells i s d (omega arith) (λ k from low. none (suc k) (omega arith) (omega arith)))

append-empty : (xs ys : List ℕ) → xs ++ ys ≡ [] → (xs ≡ []) × (ys ≡ [])
append-empty [] ys e = (refl, e)
append-empty (x ∷ xs) ys e = absurd (omega (arith, ap length e))

pub each-empty : (cells : List Segment) → places_in_segments cells ≡ [] → (k : ℕ) (d : Segment) → k < length cells → segment_places (get_or cells k d) ≡ []
each-empty [] e k d lt = absurd (omega arith)
each-empty (c ∷ cells) e zero d lt = (append-empty (segment_places c) (places_in_segments cells) e).0
each-empty (c ∷ cells) e (suc k) d lt = each-empty cells (append-empty (segment_places c) (places_in_segments cells) e).1 k d (omega arith)

-- the cells of one line
pub line-cells : (s none : Segment) (places : List ℕ) → segment_places s ≡ places → segment_places none ≡ []
    → places_in_segments (s ∷ none ∷ none ∷ none ∷ []) ≡ places
line-cells s none places e n = rw (e, n) (append-nil places)

-- The cells of a puzzle of Light Up.
pub cell-at : (p : Light) (c : ℕ) {cell : LightCell} → slice_get p.cells c ≡ Some cell → get_or p.cells c Black ≡ cell
cell-at p c {cell} e = let at = slice_get-get_or p.cells c Black (slice_get_within p.cells c cell e) in cc

pub white-at : (p : Light) (c : ℕ) {cell : LightCell} → slice_get p.cells c ≡ Some cell → white p c ≡ is_white cell
unfolding white
white-at p c e = ap is_white (cell-at p c e)

-- Lists of houses and of places that a loop makes.
pub row-long : (size : Extent) (y : ℕ) → length (row_places size y) ≡ size.w
row-long size y = length-map-range_with_len _ 0 size.w

pub column-long : (size : Extent) (x : ℕ) → length (column_places size x) ≡ size.h
column-long size x = length-map-range_with_len _ 0 size.h

-- ---- the steps from a place that pass a test
pub step-none : (test : ℕ → Bool) (size : Extent) (place n : ℕ) → None ≡ step size place n
    → filter test (steps size place n) ≡ filter test (steps size place (n + 1))
unfolding steps
step-none test size place n e = rw (add-one, ← e) (ap (filter test) (sym (append-nil (steps size place n))))

pub step-skip : (test : ℕ → Bool) (size : Extent) (place n x : ℕ) → Some x ≡ step size place n
    → false ≡ test x → filter test (steps size place n) ≡ filter test (steps size place (n + 1))
unfolding steps
step-skip test size place n x e off = grind (arith, common_steps, add-one, filter-append, cond-false, append-nil)

pub step-keep : (test : ℕ → Bool) (size : Extent) (place n x : ℕ) → Some x ≡ step size place n
    → true ≡ test x → filter test (steps size place n) ++ x ∷ [] ≡ filter test
    (steps size place (n + 1))
unfolding steps
step-keep test size place n x e on = grind (arith, common_steps, add-one, filter-append, cond-true)

-- ---- how many of them pass, by column and row
abbrev pub passing_if : (ℕ → Bool) → Bool → ℕ → ℕ
passing_if test there place = length (filter test (cond there (place ∷ []) []))

if-there : (there : Bool) (place : ℕ) → if_there (cond there (Some place) None) ≡ cond there (place ∷ []) []
if-there true place = refl
if-there false place = refl

step-count : (test : ℕ → Bool) (size : Extent) (place n : ℕ) (there : Bool) (next : ℕ) → step size place n ≡ cond there (Some next) None
    → length (filter test (steps size place (suc n))) ≡ length (filter test (steps size place n)) + passing_if test there next
unfolding steps
step-count test size place n there next e = grind (arith, common_steps, filter-append, length-append, if-there)

pub beside-count : (test : ℕ → Bool) (size : Extent) (x y : ℕ) → x < size.w
    → passing_if test (ltb 0 y) (y * size.w + x - size.w) + passing_if test (ltb 0 x) (y * size.w + x - 1)
    + passing_if test (ltb (x + 1) size.w) (y * size.w + x + 1) + passing_if test (ltb (y + 1) size.h) (y * size.w + x + size.w)
    ≡ length (filter test (steps size (y * size.w + x) 4))
unfolding steps step
beside-count test size x y lt = grind (arith, common_steps, div-mul-add, place-column, step-count)

-- ---- the house of a cell's number
pub number-at : (p : Light) (c n : ℕ) → slice_get p.cells c ≡ Some (Numbered n) → exactly n (filter (white p) (steps p.size c 4)) ∷ [] ≡ number_house p c
number-at p c n e = rw (cell-at p c e) refl

pub number-none : (p : Light) (c : ℕ) (cell : LightCell) → slice_get p.cells c ≡ Some cell → ((n : ℕ) → cell ≡ Numbered n → ⊥) → number_house p c ≡ []
number-none p c White e other = rw (cell-at p c e) refl
number-none p c Black e other = rw (cell-at p c e) refl
number-none p c (Numbered n) e other = absurd (other n refl)

-- What is counted of the cells of count houses.

-- what was counted of a house, but for the rest of its cells. These are in the board
pub record IsTallyBefore (K : Candidates) (cells : ℕ) (house : CountHouse) (rest : List ℕ) (t : Tally) : Type 0 where
  pub must_is : t.must + count_by (λ c. not (K c 0)) rest ≡ count_by (λ c. not (K c 0)) house.places
  pub may_is : t.may + count_by (λ c. K c 1) rest ≡ count_by (λ c. K c 1) house.places
  pub empty_is : t.empty + count_by (is_empty K) rest ≡ count_by (is_empty K) house.places
  pub within : (c : ℕ) → has_place rest c ≡ true → c < cells

byte-num : (b : Bool) → bool_byte b ≡ num b
byte-num b = grind (arith, common_steps, cases_Bool b)

next : (places rest : List ℕ) (k c : ℕ) → k < length places → c ≡ slice_index places k → drop k places ++ rest ≡ c ∷ (drop (k + 1) places ++ rest)
next places rest k c lt here = rw here (at_drop_more (λ l. l ++ rest) places k 0 lt)

module _ {K : Candidates} {cells : ℕ} {house : CountHouse} where
  pub tally-first : IsHouse cells house → IsTallyBefore K cells house house.places (record { must = 0; may = 0; empty = 0 })
  tally-first is = record { must_is = omega arith; may_is = omega arith; empty_is = omega arith; within = is.within }

  -- the cells of one segment, and those of the later ones
  pub tally-segment : {t : Tally} (segments : List Segment) (n : ℕ) (s d : Segment) → IsTallyBefore K cells house (places_in_segments (drop n segments)) t
      → n < length segments → s ≡ get_or segments n d
      → IsTallyBefore K cells house (drop 0 (segment_places s) ++ places_in_segments (drop (n + 1) segments)) t
  tally-segment segments n s d is lt e = rw (sym e) at (rw (places-more segments d lt) at is)

  module _ {t : Tally} (places rest : List ℕ) (k : ℕ) where
    pub tally-within : {c : ℕ} → IsTallyBefore K cells house (drop k places ++ rest) t → k < length places → c ≡ slice_index places k → c < cells
    unfolding has_place
    tally-within {c} is lt here = (rw (next places rest k c lt here) at is).within c (grind (arith, common_steps, eq-eqb))

    pub tally-next : {c : ℕ} {zero one : Bool} → IsTallyBefore K cells house (drop k places ++ rest) t → k < length places → c ≡ slice_index places k
        → zero ≡ K c 0 → one ≡ K c 1
        → IsTallyBefore K cells house (drop (k + 1) places ++ rest) (record { must = t.must + bool_byte (not zero); may = t.may + bool_byte one; empty = t.empty + bool_byte (not zero && not one) })
    unfolding has_place
    tally-next {c} {zero} {one} is lt here zeros ones =
        let i = rw (next places rest k c lt here) at is in let later = drop (k + 1) places ++ rest in
        record {
          must_is = omega (arith, i.must_is, count-cons (λ c. not (K c 0)) c later, ap (λ b. num (not b)) zeros, byte-num (not zero));
          may_is = omega (arith, i.may_is, count-cons (λ c. K c 1) c later, ap num ones, byte-num one);
          empty_is = omega (arith, i.empty_is, count-cons (is_empty K) c later, ap₂ (λ a b. num (not a && not b)) zeros ones, byte-num (not zero && not one));
          within = λ d on. i.within d (or_right _ _ on);
        }

    pub tally-past : IsTallyBefore K cells house (drop k places ++ rest) t → length places ≤ k → IsTallyBefore K cells house rest t
    tally-past is ge = rw (drop_all k places ge) at is

  pub tally-few : {t : Tally} {rest : List ℕ} → IsTallyBefore K cells house rest t → IsHouse cells house → (t.must ≤ 512) × (t.may ≤ 512) × (t.empty ≤ 512)
  tally-few is of = grind (arith, common_steps, count_by-le-length)

  pub tally-all : {t : Tally} (segments : List Segment) (n : ℕ) → IsTallyBefore K cells house (places_in_segments (drop n segments)) t → length segments ≤ n
      → IsTally K house.places t
  tally-all segments n is ge = let i = rw (drop_all n segments ge) at is in record { must_is = omega (arith, i.must_is); may_is = omega (arith, i.may_is); empty_is = omega (arith, i.empty_is) }

-- ---- the same count
pub counts-same : (f g : ℕ → Bool) (xs : List ℕ) → ((c : ℕ) → has_place xs c ≡ true → f c ≡ g c) → count_by f xs ≡ count_by g xs
unfolding has_place
counts-same f g [] same = refl
counts-same f g (x ∷ xs) same = grind (arith, common_steps, count-cons, or_right, eq-eqb, counts-same f g xs (λ c on. same c (or_right _ _ on)))
