-- Words of runs along a line, as they are written one after another.
use Rattle.fields_core.proofs.Common.{AreWordsFilled, AreWordsWritten, Bool, Candidates, Extent, IsColumnOf, IsColumnRun, IsLeast, IsRowOf, IsRowRun, IsRunAt, Layers, Light, List, ℕ, all_of, and-false, and-true, and_from, and_parts, any_below, any_below-none, ap, arith, bit_of, cases_Bool, cases_eq, cases_lt, clear, common_steps, div-mul-add, eq-eqb, eqb, false, false_from_ne_true, get_or-set_other, get_or-set_same, planes_have, has_bit, inl, inr, joined_in_column, joined_in_row, le-ltb, length, length-map, length-set, light_cells, light_rules, lt-ltb, ltb, ltb-true, map, map-set, mul-le-mul_right, ne_eqb, not, not-false, not-true, place-column, place-in, refl, set, slice_index, start_of, subst, sym, true, true≢false, white, ◌%◌, ◌&&◌, ◌*◌, ◌+◌, ◌-◌, ◌/◌, ◌<◌, ◌∙◌, ◌≡◌, ◌≢◌, ◌≤◌}
use Rattle.fields_core.proofs.CellLemmas.{has-at, same-truth, second-off}
use Rattle.fields_core.proofs.LightHouseLaws.{clear-at, clear-from}
use Rattle.fields_core.proofs.RunLemmas.{column-cell-joined, row-cell-joined}

-- ---- the run of a number
-- no run where the number does not pass
pub run-none : (test : ℕ → Bool) (len at bits : ℕ) → test at ≡ false → ((k : ℕ) → has_bit bits k ≡ false) → IsRunAt test len at bits
run-none test len at bits off none k = none k ∙ sym (rw apart (and-false (ltb k len)))
  where
    apart : clear test at k ≡ false
    apart = false_from_ne_true _ (λ on. true≢false (sym (clear-at test at k at on (omega arith) (omega arith)) ∙ off))

-- all from `at` on and before `end` pass, and neither the number before them nor the one after
pub record IsRunFrom (test : ℕ → Bool) (len at end : ℕ) : Type 0 where
  pub low : at ≤ end
  pub high : end ≤ len
  pub before : (j : ℕ) → j + 1 ≡ at → test j ≡ false
  pub pass : (i : ℕ) → at ≤ i → i < end → test i ≡ true
  pub edge : end < len → test end ≡ false

run-whole : (test : ℕ → Bool) (len at end bits : ℕ) → IsRunFrom test len at end
    → ((k : ℕ) → has_bit bits k ≡ (ltb k end && not (ltb k at))) → (i : ℕ) → at ≤ i → i < end → IsRunAt test len i bits
run-whole test len at end bits is told i from up k = told k ∙ same-truth _ _
    (λ there.
    let w = and_parts _ _ there in let below = ltb-true k end w.0 in
    let late : at ≤ k = (elim (cases_lt k at) [
      | inl less ↦ absurd (true≢false (sym (lt-ltb k at less) ∙ not-true _ w.1))
      | inr more ↦ more
    ]) in
    let high = is.high in
    and_from _ _ (lt-ltb k len (omega arith)) (clear-from test i k (λ n after before. is.pass n (omega arith) (omega arith))))
    (λ there.
    let w = and_parts _ _ there in let below = ltb-true k len w.0 in
    elim (cases_lt k at) [
      | inl less ↦
          absurd (true≢false (sym (clear-at test i k (at - 1) w.1 (omega arith) (omega arith)) ∙ is.before (at - 1) (omega arith)))
      | inr more ↦ elim (cases_lt k end) [
        | inl inside ↦ and_from _ _ (lt-ltb k end inside) (ap not (le-ltb k at more))
        | inr past ↦ absurd (true≢false (sym (clear-at test i k end w.1 (omega arith) (omega arith)) ∙ is.edge (omega arith)))
      ]
    ])

-- ---- the numbers that do not pass, one after another
-- those from `at` on are left, and the one before `at` is one
pub record AreNumbersLeft (test : ℕ → Bool) (len at left : ℕ) : Type 0 where
  pub before : (j : ℕ) → j + 1 ≡ at → test j ≡ false
  pub rest : (k : ℕ) → has_bit left k ≡ ((ltb k len && not (ltb k at)) && not (test k))

pub left-all : (test : ℕ → Bool) (len left : ℕ) → ((k : ℕ) → has_bit left k ≡ (ltb k len && not (test k))) → AreNumbersLeft test len 0 left
left-all test len left told = grind (arith, common_steps, le-ltb, and-true)

module _ {test : ℕ → Bool} {len at left : ℕ} (are : AreNumbersLeft test len at left) where
  left-off : {i : ℕ} → at ≤ i → i < len → has_bit left i ≡ false → test i ≡ true
  left-off {i} low high none = not-false _ (second-off (and_from _ _ (lt-ltb _ _ high) (ap not (le-ltb i at low))) (sym (are.rest i) ∙ none))

  pub run-last : {room : ℕ} → at ≤ len → len ≤ room → any_below (has_bit left) room ≡ false → IsRunFrom test len at len
  run-last {room} low fits none = record {
    low = low;
    high = omega arith;
    before = are.before;
    pass = λ i low high. left-off low high (any_below-none (has_bit left) room none i (omega arith));
    edge = λ less. absurd (omega arith);
  }

  module _ {room least : ℕ} (is : IsLeast (has_bit left) room least) where
    pub run-least : (least < len) × (test least ≡ false) × IsRunFrom test len at least
    run-least = grind (arith, common_steps, and_parts, ltb-true, cases_lt, lt-ltb, not-true, left-off)

    pub left-next : {next : ℕ} → ((k : ℕ) → has_bit next k ≡ (has_bit left k && not (eqb k least))) → AreNumbersLeft test len (least + 1) next
    left-next told = grind (arith, common_steps, run-least, cases_lt, lt-ltb, and-false, cases_eq, eq-eqb, ne_eqb, le-ltb, and-true)

-- ---- the words of a line
pub written-none : {test : ℕ → Bool} {len first stride : ℕ} {words : List ℕ} → AreWordsWritten test len first stride 0 words words
written-none = record { each = λ i lt. absurd (omega arith); others = λ c out. refl; long = refl }

places-apart : (first : ℕ) {stride : ℕ} (i n : ℕ) → 0 < stride → i ≢ n → first + i * stride ≢ first + n * stride
places-apart first {stride} i n some ne e = elim (cases_lt i n) [
  | inl less ↦ let m : (i + 1) * stride ≤ n * stride = mul-le-mul_right stride (omega arith) in omega arith
  | inr more ↦ let m : (n + 1) * stride ≤ i * stride = mul-le-mul_right stride (omega arith) in omega arith
]

pub written-more : (test : ℕ → Bool) (len first stride n bits : ℕ) (from to : List ℕ) → 0 < stride
    → first + n * stride < length to → AreWordsWritten test len first stride n from to
    → IsRunAt test len n bits
    → AreWordsWritten test len first stride (n + 1) from (set to (first + n * stride) bits)
written-more test len first stride n bits from to some there is run = record {
  each = λ i lt. elim (cases_eq i n) [
    | inl e ↦ rw (e, get_or-set_same to (first + n * stride) bits 0 there) run
    | inr ne ↦ rw (get_or-set_other to (first + n * stride) (first + i * stride) bits 0 (places-apart first i n some ne)) (is.each i (omega arith))
  ];
  others = λ c out. get_or-set_other to (first + n * stride) c bits 0 (λ e. out n (omega arith) (sym e)) ∙ is.others c (λ i lt. out i (omega arith));
  long = length-set _ _ _ ∙ is.long;
}

pub words-more : {W : Type 0} (bits : W → ℕ) {test : ℕ → Bool} {len first stride n place : ℕ} {from : List ℕ} (words : List W) (word : W)
    → place ≡ first + n * stride → 0 < stride → place < length words
    → AreWordsWritten test len first stride n from (map bits words) → IsRunAt test len n (bits word)
    → AreWordsWritten test len first stride (n + 1) from (map bits (set words place word))
words-more bits {test} {len} {first} {stride} {n} {place} {from} words word e some there is run =
    let inside : first + n * stride < length (map bits words) = omega (arith, there, e, length-map words bits) in
    rw (map-set bits words place word, e) (written-more test len first stride n (bits word) from (map bits words) some inside is run)

-- ---- the word of a run
pub filled-more : {W : Type 0} (bits : W → ℕ) {first stride start n : ℕ} {from : List ℕ} (words : List W) (word : W)
    → start ≤ n → first + n * stride < length words → AreWordsFilled first stride start n (bits word) from (map bits words)
    → AreWordsFilled first stride start (n + 1) (bits word) from (map bits (set words (first + n * stride) word))
filled-more bits {first} {stride} {n} words word low there is = grind (arith, common_steps, map-set, cases_eq, get_or-set_same, get_or-set_other, length-map)

pub written-filled : {test : ℕ → Bool} {len first stride start end bits : ℕ} {from mid to : List ℕ} → 0 < stride
    → IsRunFrom test len start end → ((k : ℕ) → has_bit bits k ≡ (ltb k end && not (ltb k start)))
    → AreWordsWritten test len first stride start from mid → AreWordsFilled first stride start end bits mid to → length to ≡ length mid
    → AreWordsWritten test len first stride end from to
written-filled {test} {len} {first} {stride} {start} {end} {bits} some run told is filled long = record {
  each = λ i lt. elim (cases_lt i start) [
    | inl early ↦
        rw (filled.others (first + i * stride) (λ j low up. places-apart first j i some (omega arith))) (is.each i early)
    | inr on ↦ rw (filled.each i on lt) (run-whole test len start end bits run told i on lt)
  ];
  others = λ c out. let low = run.low in filled.others c (λ i _ up. out i up) ∙ is.others c (λ i lt. out i (omega arith));
  long = long ∙ is.long;
}

-- ---- the words of the rows, one after another
clear-within : (test other : ℕ → Bool) {n j k : ℕ} → j < n → k < n → ((i : ℕ) → i < n → test i ≡ other i) → clear test j k ≡ clear other j k
clear-within test other {j} {k} low high same = same-truth _ _
    (λ on. clear-from other j k (λ i from up. sym (same i (omega arith)) ∙ clear-at test j k i on from up))
    (λ on. clear-from test j k (λ i from up. same i (omega arith) ∙ clear-at other j k i on from up))

run-from : {n i : ℕ} (whites bits : ℕ) (test : ℕ → Bool) {joined : ℕ → Bool} → i < n → ((k : ℕ) → has_bit whites k ≡ (ltb k n && test k))
    → ((k : ℕ) → k < n → joined k ≡ clear test i k) → IsRunAt (has_bit whites) n i bits → (x : ℕ) → has_bit bits x ≡ (ltb x n && joined x)
run-from {n} whites bits test lt are joins is x = is x ∙ elim (cases_lt x n) [
  | inr past ↦ rw (le-ltb _ _ past) refl
  | inl inside ↦ ap (λ b. ltb x n && b) (clear-within (has_bit whites) test lt inside (λ k low. are k ∙ rw (lt-ltb _ _ low) refl) ∙ sym (joins x inside))
]

row-run-from : (p : Light) (y whites : ℕ) {i : ℕ} (bits : ℕ) → i < p.size.w → IsRowOf p.size.w (white p) y whites
    → IsRunAt (has_bit whites) p.size.w i bits → IsRowRun p (y * p.size.w + i) bits
row-run-from p y whites {i} bits lt are = run-from whites bits (λ k. white p (y * p.size.w + k)) lt are (λ k less.
    ap (λ d. joined_in_row p (y * p.size.w + i) (d * p.size.w + k)) (div-mul-add y p.size.w i lt)
    ∙ (rw (div-mul-add y p.size.w i lt, place-column p.size.w y i lt) at (row-cell-joined p (y * p.size.w + i) less)))

pub rows-written : (p : Light) (y whites : ℕ) (from to : List ℕ) → IsRowOf p.size.w (white p) y whites
    → ((c : ℕ) → c < y * p.size.w → IsRowRun p c (slice_index from c))
    → AreWordsWritten (has_bit whites) p.size.w (y * p.size.w) 1 p.size.w from to
    → (c : ℕ) → c < (y + 1) * p.size.w → IsRowRun p c (slice_index to c)
rows-written p y whites from to are before is c lt = elim (cases_lt c (y * p.size.w)) [
  | inl early ↦ subst (IsRowRun p c) (sym (is.others c (λ i _ e. absurd (omega arith)))) (before c early)
  | inr on ↦
      let i : ℕ = c - y * p.size.w in let inside : i < p.size.w = omega arith in
      let e : y * p.size.w + i ≡ c = omega arith in let f : y * p.size.w + i * 1 ≡ c = omega arith in
      rw (e, f) at (row-run-from p y whites (slice_index to (y * p.size.w + i * 1)) inside are (is.each i inside))
]

-- ---- and of the columns
column-run-from : (p : Light) {x : ℕ} (whites : ℕ) {i : ℕ} (bits : ℕ) → x < p.size.w → i < p.size.h → IsColumnOf p.size (white p) x whites
    → IsRunAt (has_bit whites) p.size.h i bits → IsColumnRun p (i * p.size.w + x) bits
column-run-from p {x} whites {i} bits lt low are = run-from whites bits (λ k. white p (k * p.size.w + x)) low are (λ k _.
    ap (λ d. joined_in_column p (i * p.size.w + x) (k * p.size.w + d)) (place-column p.size.w i x lt)
    ∙ (rw (div-mul-add i p.size.w x lt, place-column p.size.w i x lt) at (column-cell-joined p (i * p.size.w + x) k (omega arith))))

pub columns-written : (p : Light) {x : ℕ} (whites : ℕ) (from to : List ℕ) → x < p.size.w → IsColumnOf p.size (white p) x whites
    → ((c : ℕ) → c < light_cells p → c % p.size.w < x → IsColumnRun p c (slice_index from c))
    → AreWordsWritten (has_bit whites) p.size.h x p.size.w p.size.h from to
    → (c : ℕ) → c < light_cells p → c % p.size.w < x + 1 → IsColumnRun p c (slice_index to c)
columns-written p {x} whites from to low are before is c lt less = elim (cases_eq (c % p.size.w) x) [
  | inr other ↦ subst (IsColumnRun p c) (sym (is.others c (λ i _ e. other (apart i e)))) (before c lt (omega arith))
  | inl same ↦
      let i : ℕ = c / p.size.w in let whole : i * p.size.w + c % p.size.w ≡ c = omega arith in
      let e : i * p.size.w + x ≡ c = rw same at whole in
      let f : x + i * p.size.w ≡ c = omega arith in let inside : i < p.size.h = row-in i e in
      rw (e, f) at (column-run-from p whites (slice_index to (x + i * p.size.w)) low inside are (is.each i inside))
]
  where
    apart : (i : ℕ) → x + i * p.size.w ≡ c → c % p.size.w ≡ x
    apart i e = let f : x + i * p.size.w ≡ i * p.size.w + x = omega arith in ap (λ n. n % p.size.w) (sym e ∙ f) ∙ place-column p.size.w i x low

    row-in : (i : ℕ) → i * p.size.w + x ≡ c → i < p.size.h
    row-in i e = grind (arith, common_steps, cases_lt, mul-le-mul_right)

-- the cells of a column that can be 1 on the board that a search starts from
pub column-whites : (p : Light) (planes : Layers) (x word : ℕ) → planes.size ≡ p.size → planes_have planes ≡ (light_rules p).start → x < p.size.w
    → ((y : ℕ) → has_bit word y ≡ bit_of planes.rows y 1 x) → ((y : ℕ) → has_bit word y ≡ true → y < planes.size.h) → IsColumnOf p.size (white p) x word
unfolding start_of all_of
column-whites p planes x word size start lt cells within y = elim (cases_lt y p.size.h) [
  | inr past ↦ rw (le-ltb _ _ past) (false_from_ne_true _ (λ on. absurd (omega (arith, rw size at (within y on), past))))
  | inl inside ↦
      let cell : y * p.size.w + x < light_cells p = place-in p.size.w p.size.h y x inside lt in
      cells y ∙ sym (has-at planes y x 1 (ap (λ (s : Extent). s.w) size) lt (omega arith)) ∙ ap (λ (K : Candidates). K (y * p.size.w + x) 1) start
      ∙ rw (lt-ltb _ _ inside, lt-ltb _ _ cell) (by (white p (y * p.size.w + x)))
]
  where
    by : (a : Bool) → ((true && true) && not (not a && true)) ≡ (true && a)
    by a = grind (arith, common_steps, cases_Bool a)
