-- Pieces of lines, words of rows, and the cells that they have.
use Rattle.fields_core.proofs.Common.{AreDistinct, AreRowsOf, Bool, Column, Extent, IsHouse, IsHouseOfPieces, IsRowOf, Layers, Line, List, Row, ℕ, [], and-false, and_from, and_parts, any_below, ap, arith, at_line, bit_of, cases_Bool, cases_eq, cases_lt, column_places, common_steps, cond, count_below, count_below-none, count_below-same, count_by, crosses, div-add-mod', div-mul-add, eq-eqb, eqb, eqb-true, exactly, false, false_from_ne_true, get_or, get_or-map, get_or-map-range_with_len, get_or-set_other, get_or-set_same, planes_have, has_bit, has_place, has_place-at, has_place-here, inl, inr, le-ltb, length, length-map, length-map-range_with_len, lies_in, lies_in_first, line_len, lines_beside, list_any-append, lt-ltb, ltb, ltb-true, map, map-set, mod-lt, ne_eqb, number_of, or-false, or-true, place-column, range_with_len, refl, row_places, set, slice_index, suc, sum_by-cons, sym, true, true≢false, zero, ◌%◌, ◌&&◌, ◌*◌, ◌++◌, ◌+◌, ◌/◌, ◌<◌, ◌||◌, ◌∙◌, ◌∷◌, ◌≡◌, ◌≢◌, ◌≤◌, ◌⊎◌}

-- Pieces of lines, and the cells that they have.

-- ---- one piece
pub same-truth : (a b : Bool) → (a ≡ true → b ≡ true) → (b ≡ true → a ≡ true) → a ≡ b
same-truth a b to from = grind (arith, common_steps, cases_Bool a, cases_Bool b)

pub first-off : {a b : Bool} → b ≡ true → (a && b) ≡ false → a ≡ false
first-off {a} on e = grind (arith, common_steps, cases_Bool a)

pub second-off : {a b : Bool} → a ≡ true → (a && b) ≡ false → b ≡ false
second-off {b = b} on e = grind (arith, common_steps, cases_Bool b)

pub cell-is : (w y x c : ℕ) → x < w → eqb (y * w + x) c ≡ (eqb (c / w) y && eqb (c % w) x)
cell-is w y x c lt = grind (arith, common_steps, same-truth, eqb-true, div-mul-add, place-column, and_from, eq-eqb, and_parts, div-add-mod')

-- the cells of a line are those at its places
pub place-on : (cell : ℕ → ℕ) (n c : ℕ) → has_place (map cell (range_with_len 0 n)) c ≡ true → (k : ℕ) × (k < n) × (cell k ≡ c)
place-on cell n c there = grind (arith, common_steps, has_place-at, range_with_len, length-map-range_with_len, get_or-map-range_with_len)

line-has : (cell : ℕ → ℕ) (n c k : ℕ) {on : Bool} → (on ≡ true → (k < n) × (cell k ≡ c)) → ((j : ℕ) → j < n → cell j ≡ c → on ≡ true)
    → has_place (map cell (range_with_len 0 n)) c ≡ on
line-has cell n c k from to = same-truth _ _ (λ there. let w = place-on cell n c there in to w.0 w.1 w.2) (λ on.
    let w = from on in let at = get_or-map-range_with_len cell 0 n k k 0 w.0 (omega arith) ∙ w.1 in
    rw at at (has_place-here (map cell (range_with_len 0 n)) k (omega (arith, w.0, length-map-range_with_len cell 0 n))))

-- a line as a piece
line-house : (size : Extent) {line : Line} {bits ones : ℕ} {places : List ℕ} → ((c : ℕ) → has_place places c ≡ crosses line bits (c / size.w) (c % size.w))
    → IsHouse (size.w * size.h) (exactly ones places) → IsHouseOfPieces size (record { line = line; bits = bits } ∷ []) ones ones (exactly ones places)
unfolding lies_in_first any_below lies_in
line-house size cells house = record { is = house; least_is = refl; most_is = refl; cells = cells }

pub column-house : (size : Extent) {x : ℕ} (bits ones : ℕ) → x < size.w → ((k : ℕ) → has_bit bits k ≡ ltb k size.h)
    → IsHouse (size.w * size.h) (exactly ones (column_places size x))
    → IsHouseOfPieces size (record { line = Column x; bits = bits } ∷ []) ones ones (exactly ones (column_places size x))
unfolding crosses
column-house size {x} bits ones lt is house = line-house size (λ c. line-has (λ y. y * size.w + x) size.h c (c / size.w)
    (λ on. let w = and_parts _ _ on in (ltb-true _ _ (sym (is (c / size.w)) ∙ w.1), rw (← eqb-true (c % size.w) x w.0) (div-add-mod' c size.w)))
    (λ j less at. rw (← at, div-mul-add j size.w x lt, place-column size.w j x lt) (and_from _ _ (eq-eqb x x refl) (is j ∙ lt-ltb _ _ less)))) house

pub row-house : (size : Extent) (y bits ones : ℕ) → 0 < size.w → ((k : ℕ) → k < size.w → has_bit bits k ≡ true)
    → IsHouse (size.w * size.h) (exactly ones (row_places size y))
    → IsHouseOfPieces size (record { line = Row y; bits = bits } ∷ []) ones ones (exactly ones (row_places size y))
unfolding crosses
row-house size y bits ones pos is house = line-house size (λ c. line-has (λ x. y * size.w + x) size.w c (c % size.w)
    (λ on. let w = and_parts _ _ on in (mod-lt c pos, rw (← eqb-true (c / size.w) y w.0) (div-add-mod' c size.w)))
    (λ j less at. rw (← at, div-mul-add y size.w j less, place-column size.w y j less) (and_from _ _ (eq-eqb y y refl) (is j less)))) house

-- ---- places in two lists
pub has-append : (xs ys : List ℕ) (c : ℕ) → has_place (xs ++ ys) c ≡ (has_place xs c || has_place ys c)
unfolding has_place
has-append xs ys c = list_any-append (λ x. eqb x c) xs ys

-- How many cells of a grid lie in pieces of lines.

-- ---- counts in two steps
count-add : (p : ℕ → Bool) (m n : ℕ) → count_below p (m + n) ≡ count_below p m + count_below (λ k. p (m + k)) n
unfolding count_below
count-add p m zero = let e : m + 0 ≡ m = omega arith in rw e (omega arith)
count-add p m (suc n) = let e : m + suc n ≡ suc (m + n) = omega arith in rw e (omega (arith, count-add p m n))

-- one number passes at most
count-single : (p : ℕ → Bool) (n x : ℕ) → x < n → ((k : ℕ) → k < n → k ≢ x → p k ≡ false) → count_below p n ≡ cond (p x) 1 0
unfolding count_below
count-single p zero x lt off = absurd (omega arith)
count-single p (suc n) x lt off = elim (cases_eq x n) [
  | inl e ↦ rw (e, count_below-none p n (λ k less. off k (omega arith) (λ f. absurd (omega arith)))) (omega arith)
  | inr ne ↦ rw (off n (omega arith) (λ f. ne (sym f)), count-single p n x (omega arith) (λ k less other. off k (omega arith) other)) (omega arith)
]

-- numbers that pass one of two tests, and none that passes both
pub count-apart : (a b t : ℕ → Bool) (n : ℕ) → ((c : ℕ) → c < n → a c ≡ true → b c ≡ true → ⊥)
    → count_below (λ c. (a c || b c) && t c) n ≡ count_below (λ c. a c && t c) n + count_below
    (λ c. b c && t c) n
unfolding count_below
count-apart a b t zero apart = refl
count-apart a b t (suc n) apart = grind (arith, common_steps, cases_Bool, count-apart a b t n (λ c lt. apart c (omega arith)))

count-past : (p : ℕ → Bool) {n : ℕ} (room : ℕ) → n ≤ room → ((k : ℕ) → n ≤ k → p k ≡ false) → count_below p room ≡ count_below p n
unfolding count_below
count-past p {n} zero le off = let e : n ≡ 0 = omega arith in rw e refl
count-past p {n} (suc room) le off = elim (cases_eq n (suc room)) [
  | inl e ↦ rw e refl
  | inr ne ↦ rw (off room (omega arith)) (omega (arith, count-past p room (omega arith) off))
]

-- ---- the cells of a line
row-count : (w y bits n : ℕ) → count_below (λ c. crosses (Row y) bits (c / w) (c % w)) (n * w) ≡ cond (ltb y n) (count_below (has_bit bits) w) 0
unfolding count_below crosses
row-count w y bits zero = let e : 0 * w ≡ 0 = omega arith in rw (e, le-ltb y 0 (omega arith)) refl
row-count w y bits (suc n) =
    let e : suc n * w ≡ n * w + w = omega arith in
    rw (e, count-add (λ c. crosses (Row y) bits (c / w) (c % w)) (n * w) w, row-count w y bits n) (by (cases_eq y n))
  where
    at : (k : ℕ) → k < w → crosses (Row y) bits ((n * w + k) / w) ((n * w + k) % w) ≡ (eqb n y && has_bit bits k)
    at k lt = rw (div-mul-add n w k lt, place-column w n k lt) refl

    by : (y ≡ n) ⊎ (y ≢ n) → cond (ltb y n) (count_below (has_bit bits) w) 0 + count_below
        (λ k. crosses (Row y) bits ((n * w + k) / w) ((n * w + k) % w)) w ≡ cond (ltb y (suc n))
        (count_below (has_bit bits) w) 0
    by (inl e) =
        rw (le-ltb y n (omega arith), lt-ltb y (suc n) (omega arith))
        (ap (λ m. 0 + m) (count_below-same
        (λ k. crosses (Row y) bits ((n * w + k) / w) ((n * w + k) % w)) (has_bit bits) w
        (λ k lt. at k lt ∙ rw (eq-eqb _ _ (sym e)) refl)) ∙ omega arith)
    by (inr ne) =
        rw (count_below-none (λ k. crosses (Row y) bits ((n * w + k) / w) ((n * w + k) % w)) w (λ k lt. at k lt ∙ rw (ne_eqb n y (λ e. ne (sym e))) refl))
        (grind (arith, common_steps, cases_lt y n, cases_lt y (suc n), lt-ltb, le-ltb))

column-count : (w x bits n : ℕ) → x < w → count_below (λ c. crosses (Column x) bits (c / w) (c % w)) (n * w) ≡ count_below (has_bit bits) n
unfolding count_below crosses
column-count w x bits zero lt = let e : 0 * w ≡ 0 = omega arith in rw e refl
column-count w x bits (suc n) lt =
    let e : suc n * w ≡ n * w + w = omega arith in
    rw (e, count-add (λ c. crosses (Column x) bits (c / w) (c % w)) (n * w) w, column-count w x bits n lt)
    (ap (λ m. count_below (has_bit bits) n + m)
    (count-single (λ k. crosses (Column x) bits ((n * w + k) / w) ((n * w + k) % w)) w x lt
    (λ k less ne. at k less ∙ rw (ne_eqb _ _ ne) refl) ∙ rw (at x lt, eq-eqb x x refl) refl))
  where
    at : (k : ℕ) → k < w → crosses (Column x) bits ((n * w + k) / w) ((n * w + k) % w) ≡ (eqb k x && has_bit bits n)
    at k less = rw (div-mul-add n w k less, place-column w n k less) refl

-- the cells at some places of a line are as many as these
pub line-count : (size : Extent) (line : Line) (bits room : ℕ)
    → number_of line < lines_beside size line → line_len size line ≤ room
    → ((k : ℕ) → has_bit bits k ≡ true → k < line_len size line)
    → count_below (has_bit bits) room ≡ count_below (λ c. crosses line bits (c / size.w) (c % size.w)) (size.w * size.h)
line-count size (Row y) bits room lt fits within =
    let e : size.w * size.h ≡ size.h * size.w = omega arith in
    count-past (has_bit bits) room fits (λ k high. false_from_ne_true _ (λ on. absurd (omega (arith, within k on))))
    ∙ rw e (sym (row-count size.w y bits size.h ∙ rw (lt-ltb _ _ lt) refl))
line-count size (Column x) bits room lt fits within =
    let e : size.w * size.h ≡ size.h * size.w = omega arith in
    count-past (has_bit bits) room fits (λ k high. false_from_ne_true _ (λ on. absurd (omega (arith, within k on))))
    ∙ rw e (sym (column-count size.w x bits size.h lt))

-- the cells at those of some places of a line at which the value can be
pub crosses-both : (p : Layers) (line : Line) (bits there v c : ℕ) → v < 2 → ((k : ℕ) → has_bit there k ≡ (at_line p line v k && has_bit bits k))
    → crosses line there (c / p.size.w) (c % p.size.w) ≡ (crosses line bits (c / p.size.w) (c % p.size.w) && planes_have p c v)
unfolding crosses planes_have
crosses-both p (Row n) bits there v c lt is = grind (arith, common_steps, cases_Bool, lt-ltb v 2, cases_eq (c / p.size.w) n, eq-eqb, ne_eqb, is (c % p.size.w))
crosses-both p (Column n) bits there v c lt is = grind (arith, common_steps, cases_Bool, lt-ltb, cases_eq, eq-eqb, ne_eqb)

-- ---- the places of a list
pub place-count : (test : ℕ → Bool) (places : List ℕ) (cells : ℕ) → AreDistinct places → ((c : ℕ) → has_place places c ≡ true → c < cells)
    → count_by test places ≡ count_below (λ c. has_place places c && test c) cells
unfolding has_place
place-count test [] cells distinct within = sym (count_below-none (λ c. false && test c) cells (λ c lt. refl))
place-count test (x ∷ places) cells (alone, distinct) within =
    sum_by-cons (λ c. cond (test c) 1 0) x places
    ∙ rw (place-count test places cells distinct (λ c there. within c (grind (arith, common_steps, cases_Bool))))
    (ap (λ m. m + count_below (λ c. has_place places c && test c) cells)
    (sym (count-single (λ c. eqb x c && test c) cells x (within x (rw (eq-eqb x x refl) refl))
    (λ c lt ne. rw (ne_eqb x c (λ e. ne (sym e))) refl) ∙ rw (eq-eqb x x refl) refl))
    ∙ sym (count-apart (eqb x) (has_place places) test cells (λ c lt here more. true≢false (sym more ∙ rw (sym (eqb-true _ _ here)) alone))))

-- Words of the cells of rows, and of places that pass.
pub has-at : (q : Layers) (y u v : ℕ) {w : ℕ} → q.size.w ≡ w → u < w → v < 2 → planes_have q (y * w + u) v ≡ bit_of q.rows y v u
unfolding planes_have
has-at q y u v same lt low = rw (same, div-mul-add y _ u lt, place-column _ y u lt, lt-ltb _ _ low) refl

-- ---- a word of the first places that pass
pub next-on : (test : ℕ → Bool) (n word next : ℕ) → test n ≡ true → ((k : ℕ) → has_bit word k ≡ (ltb k n && test k))
    → ((k : ℕ) → has_bit next k ≡ (has_bit word k || eqb k n)) → (k : ℕ) → has_bit next k ≡ (ltb k (n + 1) && test k)
next-on test n word next on is told k = grind (arith, common_steps, cases_eq k n, eq-eqb, lt-ltb, or-true, ne_eqb, or-false, cases_lt k n, le-ltb)

pub next-off : (test : ℕ → Bool) (n word : ℕ) → test n ≡ false → ((k : ℕ) → has_bit word k ≡ (ltb k n && test k))
    → (k : ℕ) → has_bit word k ≡ (ltb k (n + 1) && test k)
next-off test n word off is k = grind (arith, common_steps, cases_eq k n, lt-ltb, and-false, cases_lt k n, le-ltb)

-- ---- a word for each row
-- one more is written
pub rows-more : {W : Type 0} (bits : W → ℕ) (words : List W) (n : ℕ) (P : ℕ → ℕ → Type 0) (word : W) → n < length words
    → ((y : ℕ) → y < n → P y (slice_index (map bits words) y)) → P n (bits word)
    → (y : ℕ) → y < n + 1 → P y (slice_index (map bits (set words n word)) y)
rows-more bits words n P word lt written is y less = grind (arith, common_steps, map-set, cases_eq, get_or-set_same, length-map, get_or-set_other)

-- the word that was read
pub row-read : {W : Type 0} (bits : W → ℕ) (words : List W) (y : ℕ) (word : W) → y < length words → word ≡ get_or words y word → slice_index (map bits words) y ≡ bits word
row-read bits words y word lt read = get_or-map bits words y word 0 lt ∙ ap bits (sym read)

-- where each row has a word
pub rows-read : {W : Type 0} (bits : W → ℕ) (words : List W) {size : Extent} {passes : ℕ → Bool} {y : ℕ} {word : W} → y < size.h → AreRowsOf size passes (map bits words)
    → word ≡ get_or words y word → IsRowOf size.w passes y (bits word)
rows-read bits words {y} {word} lt are read = grind (arith, common_steps, row-read, length-map)
