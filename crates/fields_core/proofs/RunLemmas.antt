-- Runs around a cell of a line, segments, and the runs that a walk keeps.
use Rattle.fields_core.proofs.Common.{Bool, Extent, IsAround, IsLatest, IsLight, Light, List, RunsOn, [], add-one, and_parts, ap, append-nil, ap₂, arith, begins_at, begins_column_run, begins_row_run, cases_Bool, cases_eq, cases_lt, clear, column_house, column_places, column_run, common_steps, cond, div-mul-add, eq-eqb, eqb, eqb-true, false, false_from_ne_true, filter, filter-append, get_or, inl, inr, joined_in_column, joined_in_row, le-ltb, length, length-append, length-map-range_with_len, light_cells, line_white, lit_house, lt-ltb, ltb, ltb-false, ltb-true, map, map-append, min, mod-lt, mod-mul-add, mul-le-mul_right, ne_eqb, not, not-true, one_at_least, one_at_most, or_cases, place-column, range_with_len, refl, row_house, row_places, row_run, run_house, seen_from, suc, sym, true, true≢false, white, zero, ℕ, ◌%◌, ◌*◌, ◌++◌, ◌+◌, ◌-◌, ◌/◌, ◌<◌, ◌^◌, ◌∙◌, ◌∷◌, ◌≡◌, ◌≤◌, ◌⊎◌}
use Rattle.fields_core.proofs.LightHouseLaws.{clear-at, clear-from}

-- The run around a cell of a line is what has only white cells between it and the cell.

-- ---- a filter over numbers one after another
pub range-split : (s a b : ℕ) → range_with_len s (a + b) ≡ range_with_len s a ++ range_with_len (s + a) b
range-split s zero b = let z : s + 0 ≡ s = omega arith in let y : 0 + b ≡ b = omega arith in rw (z, y) refl
range-split s (suc a) b =
    let y : suc a + b ≡ suc (a + b) = omega arith in let z : s + 1 + a ≡ s + suc a = omega arith in
    rw y (ap (λ l. s ∷ l) (range-split (s + 1) a b ∙ ap (λ n. range_with_len (s + 1) a ++ range_with_len n b) z))

-- the numbers below n that pass
abbrev pub passing : (ℕ → Bool) → ℕ → List ℕ
passing test n = filter test (range_with_len 0 n)

pub passing-more : (test : ℕ → Bool) (n : ℕ) → passing test (n + 1) ≡ passing test n ++ cond (test n) (n ∷ []) []
passing-more test n = grind (arith, common_steps, range-split, filter-append)

pub passing-suc : (test : ℕ → Bool) (n : ℕ) → passing test (suc n) ≡ passing test n ++ cond (test n) (n ∷ []) []
passing-suc test n = ap (passing test) (sym (add-one n)) ∙ passing-more test n

-- they are those from start to the one before end
passing-range : (test : ℕ → Bool) (start end n : ℕ) → start ≤ end → ((i : ℕ) → i < start → test i ≡ false) → ((i : ℕ) → start ≤ i → i < end → test i ≡ true)
    → ((i : ℕ) → end ≤ i → i < n → test i ≡ false) → passing test n ≡ range_with_len start (min n end - start)
passing-range test start end zero low before inside past = let z : min 0 end - start ≡ 0 = omega arith in rw z refl
passing-range test start end (suc n) low before inside past =
    passing-suc test n ∙ ap (λ l. l ++ cond (test n) (n ∷ []) []) (passing-range test start end n low before inside (λ i a b. past i a (omega arith))) ∙ next
  where
    next : range_with_len start (min n end - start) ++ cond (test n) (n ∷ []) [] ≡ range_with_len start (min (suc n) end - start)
    next = elim (cases_lt n start) [
      | inl early ↦ let z : min (suc n) end - start ≡ min n end - start = omega arith in rw (before n early, z) (append-nil _)
      | inr on ↦ elim (cases_lt n end) [
        | inl there ↦
            let z : min (suc n) end - start ≡ min n end - start + 1 = omega arith in
            let y : start + (min n end - start) ≡ n = omega arith in
            rw (inside n on there, z, range-split start (min n end - start) 1, y) refl
        | inr late ↦ let z : min (suc n) end - start ≡ min n end - start = omega arith in rw (past n late (omega arith), z) (append-nil _)
      ]
    ]

-- ---- the run around a number
-- what is joined to a number lies in its run
pub around-joined : {test : ℕ → Bool} {len at start end i : ℕ} → IsAround test len at start end → i < len → clear test at i ≡ true → (start ≤ i) × (i < end)
around-joined {test} {len} {at} {start} {end} {i} on lt joined = (
  elim (cases_lt i start) [ inl below ↦ absurd (blocked below start refl) | inr low ↦ low ],
  elim (cases_lt i end) [
    | inl high ↦ high
    | inr past ↦
        let a = on.past in
        absurd (true≢false (sym (clear-at test at i end joined (omega arith) (omega arith)) ∙ on.last (omega arith)))
  ],
)
  where
    blocked : i < start → (s : ℕ) → s ≡ start → ⊥
    blocked below zero e = omega arith
    blocked below (suc s) e =
        let low = on.low in true≢false (sym (clear-at test at i s joined (omega arith) (omega arith)) ∙ on.first s e)

pub around-run : {test : ℕ → Bool} {len at start end : ℕ} → IsAround test len at start end → filter (clear test at) (range_with_len 0 len) ≡ range_with_len start (end - start)
around-run {test} {len} {at} {start} {end} on =
    let low = on.low in let past = on.past in
    let high = on.high in let z : min len end ≡ end = omega arith in
    rw z at (passing-range (clear test at) start end len (omega arith)
    (λ i below. false_from_ne_true _ (λ joined. omega (arith, (around-joined on (omega arith) joined).0)))
    (λ i above below. clear-from test at i (λ k a b. on.pass k (omega arith) (omega arith)))
    (λ i above below. false_from_ne_true _ (λ joined. omega (arith, (around-joined on below joined).1))))

-- ---- the same along two ways of numbering one line
pub filter-map : (f : ℕ → ℕ) (test : ℕ → Bool) (xs : List ℕ) → filter test (map f xs) ≡ map f (filter (λ x. test (f x)) xs)
filter-map f test [] = refl
filter-map f test (x ∷ xs) = grind (arith, common_steps, cases_Bool, filter-map f test xs)

pub filter-same : (s t : ℕ → Bool) (a n : ℕ) → ((i : ℕ) → a ≤ i → i < a + n → s i ≡ t i) → filter s (range_with_len a n) ≡ filter t (range_with_len a n)
filter-same s t a zero same = refl
filter-same s t a (suc n) same = rw (same a (omega arith) (omega arith), filter-same s t (a + 1) n (λ i low high. same i (omega arith) (omega arith))) refl

pub map-same : (f g : ℕ → ℕ) (xs : List ℕ) → ((i : ℕ) → f i ≡ g i) → map f xs ≡ map g xs
map-same f g [] same = refl
map-same f g (x ∷ xs) same = rw (same x) (ap (λ l. g x ∷ l) (map-same f g xs same))

pub clear-same : (s t : ℕ → Bool) (j k : ℕ) → ((i : ℕ) → s i ≡ t i) → clear s j k ≡ clear t j k
clear-same s t j k same = grind (arith, common_steps, clear-from, clear-at)

-- the places of a run are those of a line that are joined to a cell of it
pub line-run : (joined : ℕ → Bool) (test along_test : ℕ → Bool) (at len : ℕ) (place along : ℕ → ℕ)
    → ((i : ℕ) → along i ≡ place i) → ((i : ℕ) → along_test i ≡ test i) → ((i : ℕ) → i < len → joined (place i) ≡ clear test at i)
    → map along (filter (clear along_test at) (range_with_len 0 len)) ≡ filter joined (map place (range_with_len 0 len))
line-run joined test along_test at len place along same_place same_test is = grind (arith, common_steps, map-same, filter-same, clear-same, filter-map)

-- ---- the run of a row and of a column
pub row-cell-joined : (p : Light) (c : ℕ) {x : ℕ} → x < p.size.w → joined_in_row p c (c / p.size.w * p.size.w + x) ≡ clear
    (λ i. white p (c / p.size.w * p.size.w + i)) (c % p.size.w) x
unfolding joined_in_row
row-cell-joined p c lt = grind (arith, common_steps, div-mul-add, mod-mul-add, eq-eqb)

pub column-cell-joined : (p : Light) (c y : ℕ) → 0 < p.size.w → joined_in_column p c (y * p.size.w + c % p.size.w) ≡ clear
    (λ i. white p (i * p.size.w + c % p.size.w)) (c / p.size.w) y
unfolding joined_in_column
column-cell-joined p c y pos = grind (arith, common_steps, mod-lt, div-mul-add, mod-mul-add, eq-eqb)

pub row-run-is : (p : Light) (y : ℕ) {x : ℕ} → x < p.size.w
    → map (λ i. y * p.size.w + i * 1) (filter (clear (λ i. white p (y * p.size.w + i * 1)) x) (range_with_len 0 p.size.w)) ≡ row_run p (y * p.size.w + x)
unfolding row_run
row-run-is p y {x} lt =
    let same : (i : ℕ) → y * p.size.w + i * 1 ≡ y * p.size.w + i = λ i. omega arith in
    rw (div-mul-add y p.size.w x lt)
    (line-run (joined_in_row p (y * p.size.w + x)) (λ i. white p (y * p.size.w + i)) (λ i. white p (y * p.size.w + i * 1)) x p.size.w
    (λ i. y * p.size.w + i) (λ i. y * p.size.w + i * 1) same (λ i. ap (white p) (same i)) joined)
  where
    joined : (i : ℕ) → i < p.size.w → joined_in_row p (y * p.size.w + x) (y * p.size.w + i) ≡ clear (λ i. white p (y * p.size.w + i)) x i
    joined i low = rw (div-mul-add y p.size.w x lt, place-column p.size.w y x lt) at (row-cell-joined p (y * p.size.w + x) low)

pub column-run-is : (p : Light) (y : ℕ) {x : ℕ} → x < p.size.w
    → map (λ i. x + i * p.size.w) (filter (clear (λ i. white p (x + i * p.size.w)) y) (range_with_len 0 p.size.h)) ≡ column_run p (y * p.size.w + x)
unfolding column_run
column-run-is p y {x} lt =
    let same : (i : ℕ) → x + i * p.size.w ≡ i * p.size.w + x = λ i. omega arith in
    rw (place-column p.size.w y x lt)
    (line-run (joined_in_column p (y * p.size.w + x)) (λ i. white p (i * p.size.w + x)) (λ i. white p (x + i * p.size.w)) y p.size.h
    (λ i. i * p.size.w + x) (λ i. x + i * p.size.w) same (λ i. ap (white p) (same i)) (λ i _. joined i))
  where
    joined : (i : ℕ) → joined_in_column p (y * p.size.w + x) (i * p.size.w + x) ≡ clear (λ i. white p (i * p.size.w + x)) y i
    joined i = rw (div-mul-add y p.size.w x lt, place-column p.size.w y x lt) at (column-cell-joined p (y * p.size.w + x) i (omega arith))

-- ---- the cells of a row and of a column
pub row-made : (size : Extent) (y : ℕ) {w : ℕ} → w ≡ size.w → map (λ i. y * w + i * 1) (range_with_len 0 w) ≡ row_places size y
row-made size y e = grind (arith, common_steps, map-same)

pub column-made : (size : Extent) (x : ℕ) {w h : ℕ} → w ≡ size.w → h ≡ size.h → map (λ i. x + i * w) (range_with_len 0 h) ≡ column_places size x
column-made size x e f = grind (arith, common_steps, map-same)

-- A segment that is cut at a cell.

-- ---- a line cut at one of its cells
abbrev pub line : ℕ → ℕ → ℕ → List ℕ
line first stride n = map (λ k. first + k * stride) (range_with_len 0 n)

shifted : (f : ℕ → ℕ) (a b n : ℕ) → map f (range_with_len (a + b) n) ≡ map (λ i. f (a + i)) (range_with_len b n)
shifted f a b zero = refl
shifted f a b (suc n) = let z : a + b + 1 ≡ a + (b + 1) = omega arith in rw z (ap (λ l. f (a + b) ∷ l) (shifted f a (b + 1) n))

pub line-from : (first stride at n : ℕ) → line (first + at * stride) stride n ≡ map (λ i. first + i * stride) (range_with_len at n)
line-from first stride at n =
    let on : (k : ℕ) → first + at * stride + k * stride ≡ first + (at + k) * stride = λ k. omega arith in let z : at + 0 ≡ at = omega arith in
    map-same _ _ (range_with_len 0 n) on ∙ sym (shifted (λ i. first + i * stride) at 0 n) ∙ ap (λ k. map (λ i. first + i * stride) (range_with_len k n)) z

kept-others : (f : ℕ → ℕ) (place a n : ℕ) → ((i : ℕ) → a ≤ i → i < a + n → f i ≡ place → ⊥)
    → filter (λ d. not (eqb d place)) (map f (range_with_len a n)) ≡ map f (range_with_len a n)
kept-others f place a zero other = refl
kept-others f place a (suc n) other = grind (arith, common_steps, ne_eqb, kept-others f place (a + 1) n (λ i low lt. other i (omega arith) (omega arith)))

pub line-cut : (first stride k m : ℕ) {place : ℕ} → 0 < stride → first + k * stride ≡ place
    → filter (λ d. not (eqb d place)) (line first stride (k + suc m)) ≡ line first stride k ++ line (place + stride) stride m
line-cut first stride k m {place} pos here =
    ap (λ r. filter others (map at r)) (range-split 0 k (suc m))
    ∙ ap (filter others) (map-append at (range_with_len 0 k) (range_with_len (0 + k) (suc m)))
    ∙ filter-append others (map at (range_with_len 0 k)) (map at (range_with_len (0 + k) (suc m)))
    ∙ ap₂ (λ a b. a ++ b) (kept-others at place 0 k before) behind
  where
    others : ℕ → Bool
    others d = not (eqb d place)

    at : ℕ → ℕ
    at i = first + i * stride

    before : (i : ℕ) → 0 ≤ i → i < 0 + k → at i ≡ place → ⊥
    before i low lt e = let a : (i + 1) * stride ≤ k * stride = mul-le-mul_right stride (omega arith) in omega arith

    after : (i : ℕ) → k + 1 ≤ i → i < k + 1 + m → at i ≡ place → ⊥
    after i low lt e = let a : (k + 1) * stride ≤ i * stride = mul-le-mul_right stride (omega arith) in omega arith

    behind : filter others (map at (range_with_len (0 + k) (suc m))) ≡ line (place + stride) stride m
    behind = grind (arith, common_steps, eq-eqb, kept-others, line-from)

-- The runs that a walk over the cells keeps.

-- ---- the run around a cell of a line
pub around-begun : (p : Light) (first stride : ℕ) {len at end : ℕ} → begins_at p first stride at ≡ true
    → RunsOn (line_white p first stride) len at end → IsAround (line_white p first stride) len at at end
around-begun p first stride {len} {at} {end} begun on = record {
  low = omega arith;
  past = on.past;
  high = on.high;
  pass = grind (arith, common_steps, cases_lt, and_parts, on.pass);
  first = λ i e. edge i e (or_cases _ _ (and_parts _ _ begun).1);
  last = on.edge;
}
  where
    edge : (i : ℕ) → suc i ≡ at → (eqb at 0 ≡ true) ⊎ (not (white p (first + at * stride - stride)) ≡ true) → line_white p first stride i ≡ false
    edge i e (inl start) = let z = eqb-true at 0 start in absurd (omega arith)
    edge i e (inr black) =
        let z : first + at * stride - stride ≡ first + i * stride = rw (sym e) (omega arith) in rw z at (not-true _ black)

around-next : {test : ℕ → Bool} {len i start end : ℕ} → IsAround test len i start end → suc i < end → IsAround test len (suc i) start end
around-next {len} {i} {start} {end} is lt = grind (arith, common_steps)

later : (i : ℕ) → eqb (suc i) 0 ≡ false
later i = ne_eqb (suc i) 0 (λ e. omega (arith, e))

-- where no run reaches a white cell, one begins there; and else none does
pub latest-begins : (p : Light) (first stride : ℕ) {len at : ℕ} {run : ℕ × ℕ} → IsLatest (line_white p first stride) len at run → run.1 ≤ at → at < len
    → white p (first + at * stride) ≡ true → begins_at p first stride at ≡ true
latest-begins p first stride {at = zero} latest past lt on = rw on refl
latest-begins p first stride {at = suc i} latest past lt on =
    let z : first + suc i * stride - stride ≡ first + i * stride = omega arith in
    let off : white p (first + i * stride) ≡ false = latest.1 past lt on i refl in rw (on, z, off, later i) refl

pub latest-reaches : (p : Light) (first stride : ℕ) {len at : ℕ} {run : ℕ × ℕ} → IsLatest (line_white p first stride) len at run → at < run.1
    → begins_at p first stride at ≡ false
latest-reaches p first stride {at = zero} latest lt = absurd (omega (arith, (latest.0 lt).0))
latest-reaches p first stride {at = suc i} latest lt =
    let is = latest.0 lt in let z : first + suc i * stride - stride ≡ first + i * stride = omega arith in
    let here : white p (first + suc i * stride) ≡ true = is.1.pass (suc i) is.1.low is.1.past in
    let before : white p (first + i * stride) ≡ true = is.1.pass i (omega (arith, is.0)) (omega (arith, is.1.past)) in
    rw (here, z, before, later i) refl

pub latest-none : (test : ℕ → Bool) (len : ℕ) → IsLatest test len 0 (0, 0)
latest-none test len = (λ lt. absurd (omega (arith, lt)), λ past lt on i e. absurd (omega (arith, e)))

pub latest-white : {test : ℕ → Bool} {len at : ℕ} (run : ℕ × ℕ) → IsAround test len at run.0 run.1 → IsLatest test len (at + 1) run
latest-white {test} {len} {at} run is = grind (arith, common_steps, add-one, around-next)

pub latest-black : {test : ℕ → Bool} {len at : ℕ} (run : ℕ × ℕ) → test at ≡ false → IsLatest test len at run → IsLatest test len (at + 1) run
latest-black {len} {at} run off latest = grind (arith, common_steps)

-- ---- the latest run of each column: at the row below where the row has been looked at, and else at the row
abbrev pub AreColumnsKept : Light → List (ℕ × ℕ) → ℕ → ℕ → Type 0
AreColumnsKept p runs y x = (c : ℕ) → c < p.size.w
    → IsLatest (line_white p c p.size.w) p.size.h (y + cond (ltb c x) 1 0) (get_or runs c (0, 0))

column-same : (p : Light) (y x : ℕ) {run : ℕ × ℕ} (c : ℕ) → (c ≡ x → ⊥) → IsLatest (line_white p c p.size.w) p.size.h (y + cond (ltb c x) 1 0) run
    → IsLatest (line_white p c p.size.w) p.size.h (y + cond (ltb c (x + 1)) 1 0) run
column-same p y x c other is = let e : ltb c (x + 1) ≡ ltb c x = grind (arith, common_steps, cases_lt c x, ltb-true, ltb-false, lt-ltb, le-ltb) in rw e is

pub columns-more : (p : Light) (runs more : List (ℕ × ℕ)) (y x : ℕ) → AreColumnsKept p runs y x
    → ((c : ℕ) → (c ≡ x → ⊥) → get_or more c (0, 0) ≡ get_or runs c (0, 0))
    → IsLatest (line_white p x p.size.w) p.size.h (y + 1) (get_or more x (0, 0)) → AreColumnsKept p more y (x + 1)
columns-more p runs more y x are others here = λ c lt. elim (cases_eq c x) [
  | inl same ↦ let e : ltb x (x + 1) ≡ true = lt-ltb x (x + 1) (omega arith) in rw (same, e) here
  | inr other ↦ rw (others c other) (column-same p y x c other (are c lt))
]

pub columns-none : (p : Light) (runs : List (ℕ × ℕ)) → ((c : ℕ) → c < p.size.w → get_or runs c (0, 0) ≡ (0, 0)) → AreColumnsKept p runs 0 0
columns-none p runs none c lt = let e : ltb c 0 ≡ false = le-ltb c 0 (omega arith) in rw (e, none c lt) (latest-none (line_white p c p.size.w) p.size.h)

pub columns-row : (p : Light) (runs : List (ℕ × ℕ)) (y : ℕ) → AreColumnsKept p runs y p.size.w → AreColumnsKept p runs (y + 1) 0
columns-row p runs y are c lt = grind (arith, common_steps, le-ltb, lt-ltb)

pub column-here : (p : Light) (runs : List (ℕ × ℕ)) (y x : ℕ) → AreColumnsKept p runs y x → x < p.size.w
    → IsLatest (line_white p x p.size.w) p.size.h y (get_or runs x (0, 0))
column-here p runs y x are lt = let e : ltb x x ≡ false = le-ltb x x (omega arith) in let z : y + 0 ≡ y = omega arith in rw (e, z) at (are x lt)

-- ---- places are small
pub few-places : {p : Light} → IsLight p → light_cells p < 2 ^ 16
few-places {p} is = grind (arith, common_steps, mul-le-mul_right)

-- ---- the house of a white cell
around-line : (p : Light) (first stride : ℕ) {len at start end : ℕ} → IsAround (line_white p first stride) len at start end
    → map (λ i. first + i * stride) (filter (clear (line_white p first stride) at) (range_with_len 0 len)) ≡ line (first + start * stride) stride (end - start)
around-line p first stride {len} {at} {start} {end} is = grind (arith, common_steps, around-run, line-from)

pub lit-lines : (p : Light) {y x : ℕ} {left right top end : ℕ} → x < p.size.w → white p (y * p.size.w + x) ≡ true
    → IsAround (line_white p (y * p.size.w) 1) p.size.w x left right → IsAround (line_white p x p.size.w) p.size.h y top end
    → lit_house p (y * p.size.w + x) ≡ one_at_least (line (y * p.size.w + left) 1 (right - left)
    ++ (line (x + top * p.size.w) p.size.w (y - top) ++ line (y * p.size.w + x + p.size.w) p.size.w (end - y - 1))) ∷ []
unfolding seen_from
lit-lines p {y} {x} {left} {right} {top} {end} lt on row column =
    rw on (ap (λ l. one_at_least l ∷ []) (ap₂ (λ s t. s ++ t) (sym first) others))
  where
    z : y * p.size.w + left * 1 ≡ y * p.size.w + left
    z = omega arith

    first : line (y * p.size.w + left) 1 (right - left) ≡ row_run p (y * p.size.w + x)
    first = rw z at (sym (around-line p (y * p.size.w) 1 row) ∙ row-run-is p y lt)

    whole : y - top + suc (end - y - 1) ≡ end - top
    whole = let low = column.low in let past = column.past in omega arith

    joined : (k : ℕ) → x + top * p.size.w + k * p.size.w ≡ (top + k) * p.size.w + x
    joined k = omega arith

    here : x + top * p.size.w + (y - top) * p.size.w ≡ y * p.size.w + x
    here = let low = column.low in let e : top + (y - top) ≡ y = omega arith in rw e at (joined (y - top))

    others : filter (λ d. not (eqb d (y * p.size.w + x))) (column_run p (y * p.size.w + x))
        ≡ line (x + top * p.size.w) p.size.w (y - top) ++ line (y * p.size.w + x + p.size.w) p.size.w (end - y - 1)
    others =
        ap (filter (λ d. not (eqb d (y * p.size.w + x)))) (sym (column-run-is p y lt) ∙ around-line p x p.size.w column)
        ∙ rw whole at (line-cut (x + top * p.size.w) p.size.w (y - top) (end - y - 1) (omega arith) here)

lines-long : (a m i b n j c k l : ℕ) → length (line a m i ++ (line b n j ++ line c k l)) ≡ i + (j + l)
lines-long a m i b n j c k l = grind (arith, common_steps, length-append, length-map-range_with_len)

-- it is as long as both runs together, but for the cell that they share
pub lit-long : (p : Light) {y : ℕ} (x left right : ℕ) {top end : ℕ} → IsAround (line_white p x p.size.w) p.size.h y top end
    → right - left + (end - top - 1) ≡ length (line (y * p.size.w + left) 1 (right - left)
    ++ (line (x + top * p.size.w) p.size.w (y - top) ++ line (y * p.size.w + x + p.size.w) p.size.w (end - y - 1)))
lit-long p {y} x left right {top} {end} column = grind (arith, common_steps, lines-long)

-- ---- the house of a run
pub run-told : (p : Light) (first stride : ℕ) {len at end : ℕ} {places : List ℕ} → begins_at p first stride at ≡ true
    → RunsOn (line_white p first stride) len at end → places ≡ line (first + at * stride) stride (end - at)
    → one_at_most places ∷ [] ≡ run_house p first stride len at
run-told p first stride begun on e =
    rw begun (ap (λ l. one_at_most l ∷ []) (e ∙ sym (around-line p first stride (around-begun p first stride begun on))))

pub run-none : (p : Light) (first stride len at : ℕ) → begins_at p first stride at ≡ false → run_house p first stride len at ≡ []
run-none p first stride len at off = rw off refl

pub row-house-is : (p : Light) (y : ℕ) {x : ℕ} → x < p.size.w → run_house p (y * p.size.w) 1 p.size.w x ≡ row_house p (y * p.size.w + x)
unfolding begins_row_run
row-house-is p y {x} lt =
    let z : y * p.size.w + x * 1 ≡ y * p.size.w + x = omega arith in rw (row-run-is p y lt, place-column p.size.w y x lt, z) refl

pub column-house-is : (p : Light) (y : ℕ) {x : ℕ} → x < p.size.w → run_house p x p.size.w p.size.h y ≡ column_house p (y * p.size.w + x)
unfolding begins_column_run
column-house-is p y {x} lt =
    let z : x + y * p.size.w ≡ y * p.size.w + x = omega arith in rw (column-run-is p y lt, div-mul-add y p.size.w x lt, z) refl

-- a black cell begins none
pub row-black : (p : Light) (c : ℕ) → white p c ≡ false → row_house p c ≡ []
unfolding begins_row_run
row-black p c off = rw off refl

pub column-black : (p : Light) (c : ℕ) → white p c ≡ false → column_house p c ≡ []
unfolding begins_column_run
column-black p c off = rw off refl
