-- Lines that are roomy for their clues.
use Rattle.pattern_core.proofs.Common.{AllByRecursion, ArePositive, IsIdle, IsRoomy, List, Pattern, Set, [], all_of, and_parts, ap, arith, cases_Bool, cases_eq, cases_lt, clue_of, common_steps, false, false_from_ne_true, get_or, get_or-append_right, get_or-replicate, get_or_append_left, has_place-here, has_runs, has_runs-from, has_value, in_grid, inl, inr, length, length-append, length-line_places, length-replicate, length-sets_at, line_cells, line_places, line_rules, lines_of, lt-ltb, ltb-true, refl, replicate, runs, runs_after, sets_at, sets_at-value, slice_index, strikes_at, strikes_at-some, strikes_by_fillings, subst, suc, sym, test_from_shown, true, true≢false, used, zero, ℕ, ◌++◌, ◌+◌, ◌-◌, ◌<◌, ◌∙◌, ◌∷◌, ◌≡◌, ◌≤◌}

-- A line of cells that may be either, longer than its clue needs by as much as each run is: each of its cells is white in some
-- filling, and black in some.

-- cells of such a number that have these runs
pub record Fitting (clue : List ℕ) (n : ℕ) : Type 0 where
  pub cells : List ℕ
  pub long : length cells ≡ n
  pub are : runs cells ≡ clue
  pub small : (j : ℕ) → get_or cells j 0 < 2

-- some such cells have the value at the place
abbrev pub Shows : List ℕ → ℕ → ℕ → ℕ → Type 0
Shows clue n k v = (f : Fitting clue n) × (get_or f.cells k 0 ≡ v)

-- each run is at most s
abbrev pub AtMost : ℕ → List ℕ → Type 0
AtMost s clue = AllByRecursion (λ m. m ≤ s) clue

-- white cells before others, and black ones
whites : (d : ℕ) (cells : List ℕ) → runs (replicate d 0 ++ cells) ≡ runs cells
unfolding runs_after
whites zero cells = refl
whites (suc d) cells = whites d cells

blacks : (k d : ℕ) (cells : List ℕ) → runs_after k (replicate d 1 ++ cells) ≡ runs_after (k + d) cells
unfolding runs_after
blacks k zero cells = ap (λ j. runs_after j cells) (omega arith)
blacks k (suc d) cells = blacks (suc k) d cells ∙ ap (λ j. runs_after j cells) (omega arith)

pub run_first : (m : ℕ) (cells : List ℕ) → 0 < m → runs (replicate m 1 ++ 0 ∷ cells) ≡ m ∷ runs cells
unfolding runs_after
run_first zero cells some = absurd (omega arith)
run_first (suc m) cells some = blacks 0 (suc m) (0 ∷ cells) ∙ ap (λ j. runs_after j (0 ∷ cells)) (let z : 0 + suc m ≡ suc m = omega arith in z)

-- the cells with so many of one value before them
module _ (d a : ℕ) (cells : List ℕ) where
  before : (k : ℕ) → k < d → get_or (replicate d a ++ cells) k 0 ≡ a
  before k lt = get_or_append_left _ cells 0 k (omega (arith, length-replicate d a)) ∙ get_or-replicate d k a 0 lt

  behind : (k : ℕ) → get_or (replicate d a ++ cells) (d + k) 0 ≡ get_or cells k 0
  behind k =
      get_or-append_right _ cells d (d + k) 0 (length-replicate d a) (omega arith)
      ∙ ap (λ j. get_or cells j 0) (omega arith)

  stays_small : a < 2 → ((j : ℕ) → get_or cells j 0 < 2) → (j : ℕ) → get_or (replicate d a ++ cells) j 0 < 2
  stays_small low small j = grind (arith, common_steps, cases_Bool, before, behind, cases_lt)

  longer : length (replicate d a ++ cells) ≡ d + length cells
  longer = omega (arith, length-append (replicate d a) cells, length-replicate d a)

-- white cells come first
abbrev whiter : {clue : List ℕ} {n : ℕ} (d : ℕ) → Fitting clue n → Fitting clue (d + n)
whiter d f = record {
  cells = replicate d 0 ++ f.cells;
  long = omega (arith, longer d 0 f.cells);
  are = whites d f.cells ∙ f.are;
  small = stays_small d 0 f.cells (omega arith) f.small;
}

-- a run comes first, and a white cell
ended : (cells : List ℕ) → ((j : ℕ) → get_or cells j 0 < 2) → (j : ℕ) → get_or (0 ∷ cells) j 0 < 2
ended cells small zero = omega arith
ended cells small (suc j) = small j

abbrev longer_by : {clue : List ℕ} {n : ℕ} (m : ℕ) → 0 < m → Fitting clue n → Fitting (m ∷ clue) (m + suc n)
longer_by m some f = record {
  cells = replicate m 1 ++ 0 ∷ f.cells;
  long = omega (arith, longer m 1 (0 ∷ f.cells));
  are = run_first m f.cells some ∙ ap (λ r. m ∷ r) f.are;
  small = stays_small m 1 _ (omega arith) (ended f.cells f.small);
}

none_small : (j : ℕ) → get_or {A = ℕ} [] j 0 < 2
none_small zero = omega arith
none_small (suc j) = omega arith

no_runs : runs [] ≡ []
unfolding runs_after
no_runs = refl

one_run : (k m : ℕ) → 0 < m → k ≡ m → runs_after k [] ≡ m ∷ []
unfolding runs_after
one_run zero m some e = absurd (omega arith)
one_run (suc k) m some e = ap (λ i. i ∷ []) e

-- white cells alone, and a run alone
abbrev empty : Fitting [] 0
empty = record { cells = []; long = refl; are = no_runs; small = none_small }

abbrev alone : (m : ℕ) → 0 < m → Fitting (m ∷ []) (m + 0)
alone m some = record {
  cells = replicate m 1 ++ [];
  long = longer m 1 [];
  are = blacks 0 m [] ∙ one_run (0 + m) m some (omega arith);
  small = stays_small m 1 [] (omega arith) none_small;
}

-- cells that begin with the clue's first run
abbrev BeginsWithRun : List ℕ → ℕ → ℕ → Type 0
BeginsWithRun clue m n = (f : Fitting (m ∷ clue) n) × ((k : ℕ) → k < m → get_or f.cells k 0 ≡ 1)

run_and : {clue : List ℕ} (m n : ℕ) → ArePositive (m ∷ clue) → m < n → Fitting clue (n - m - 1) → BeginsWithRun clue m n
run_and {clue} m n p lt f = subst (BeginsWithRun clue m) (omega arith)
    (longer_by m p.0 f, λ k low. before m 1 _ k low)

blank : {n : ℕ} → Fitting [] n
blank {n} = subst (Fitting []) (omega arith) (whiter n empty)

begins : (clue : List ℕ) (m n : ℕ) → ArePositive (m ∷ clue) → used (m ∷ clue) ≤ n + 1 → BeginsWithRun clue m n
begins [] m n p fits = elim (cases_lt m n) [
  | inl lt ↦ run_and m n p lt blank
  | inr ge ↦ subst (BeginsWithRun [] m) (omega arith) (alone m p.0, λ k lt. before m 1 [] k lt)
]
begins (x ∷ clue) m n p fits = run_and m n p (omega arith) (begins clue x (n - m - 1) p.1 (omega arith)).0

-- a clue that fits has a filling
fill : (clue : List ℕ) {n : ℕ} → ArePositive clue → used clue ≤ n + 1 → Fitting clue n
fill [] p fits = blank
fill (m ∷ clue) {n} p fits = (begins clue m n p fits).0

placed : {clue : List ℕ} {n k v : ℕ} (m j : ℕ) → Shows clue n k v → n ≡ m → k ≡ j → Shows clue m j v
placed {clue} {n} {k} {v} m j s n_is k_is = subst (λ i. Shows clue i j v) n_is (subst (λ i. Shows clue n i v) k_is s)

-- each cell is white in some filling
pub white : (clue : List ℕ) (n k s : ℕ) → ArePositive clue → AtMost s clue → used clue + s ≤ n + 1 → k < n → Shows clue n k 0
white [] n k s p most room lt = placed n k (whiter n empty, before n 0 [] k lt) (omega arith) refl
white (m ∷ clue) n k s p most room lt = elim (cases_lt k m) [
  | inl low ↦
      let f : Fitting (m ∷ clue) (n - k - 1) = fill (m ∷ clue) p (omega arith) in
      placed n k (whiter (k + 1) f, before (k + 1) 0 f.cells k (omega arith)) (omega arith) refl
  | inr high ↦ elim (cases_eq k m) [
    | inl e ↦
        let f : Fitting clue (n - m - 1) = fill clue p.1 (omega arith) in
        placed n k (longer_by m p.0 f, behind m 1 _ 0) (omega arith) (omega arith)
    | inr ne ↦
        let w = white clue (n - m - 1) (k - m - 1) s p.1 most.1 (omega arith) (omega arith) in
        placed n k (longer_by m p.0 w.0, behind m 1 (0 ∷ w.0.cells) (suc (k - m - 1)) ∙ w.1) (omega arith) (omega arith)
  ]
]

-- and black in some, where there is a run, and one cell more than needed
in_run : (clue : List ℕ) (m n d k : ℕ) → ArePositive (m ∷ clue) → used (m ∷ clue) + d ≤ n + 1 → d < n → d ≤ k → k < d + m → Shows (m ∷ clue) n k 1
in_run clue m n d k p room inside from low =
    let f = begins clue m (n - d) p (omega arith) in
    placed n k (whiter d f.0, behind d 0 f.0.cells (k - d) ∙ f.1 (k - d) (omega arith)) (omega arith) (omega arith)

pub black : (clue : List ℕ) (m n k : ℕ) → ArePositive (m ∷ clue) → used (m ∷ clue) ≤ n → k < n → Shows (m ∷ clue) n k 1
black [] m n k p room lt = let more = p.0 in in_run [] m n (k + 1 - m) k p (omega arith) (omega arith) (omega arith) (omega arith)
black (x ∷ clue) m n k p room lt = let more = p.0 in elim (cases_lt k (m + 1)) [
  | inl low ↦ in_run (x ∷ clue) m n (k + 1 - m) k p (omega arith) (omega arith) (omega arith) (omega arith)
  | inr high ↦
      let w = black clue x (n - m - 1) (k - m - 1) p.1 (omega arith) (omega arith) in
      placed n k (longer_by m p.0 w.0, behind m 1 (0 ∷ w.0.cells) (suc (k - m - 1)) ∙ w.1) (omega arith) (omega arith)
]

-- nothing is struck from cells that may be either
pub nothing_struck : (clue : List ℕ) (sets : List Set) (k : ℕ) {v s : ℕ} → ArePositive clue → 0 < length clue → AtMost s clue → 0 < s → used clue + s ≤ length sets + 1
    → ((j : ℕ) → j < length sets → (has_value (get_or sets j []) 0 ≡ true) × (has_value (get_or sets j []) 1 ≡ true)) → k < length sets → v < 2
    → strikes_by_fillings (has_runs clue) sets k v ≡ false
nothing_struck clue sets k {v} {s} p some most one room both lt low = by clue v p some most room low
  where
    by_filling : {clue : List ℕ} {v : ℕ} → Shows clue (length sets) k v → strikes_by_fillings (has_runs clue) sets k v ≡ false
    by_filling {clue} {v} (f, shown) = test_from_shown (has_runs clue) sets k v (
      f.cells,
      record {
        fills = record { len = f.long; each = λ j inside. either (get_or f.cells j 0) (f.small j) (get_or sets j []) (both j inside) };
        holds_true = has_runs-from f.cells f.are;
        has_it = shown;
      },
    )
      where
        either : (u : ℕ) → u < 2 → (set : Set) → (has_value set 0 ≡ true) × (has_value set 1 ≡ true) → has_value set u ≡ true
        either zero small set both = both.0
        either (suc zero) small set both = both.1
        either (suc (suc u)) small set both = absurd (omega arith)

    by : (clue : List ℕ) (v : ℕ) → ArePositive clue → 0 < length clue → AtMost s clue → used clue + s ≤ length sets + 1 → v < 2
        → strikes_by_fillings (has_runs clue) sets k v ≡ false
    by clue zero p some most room low = by_filling (white clue (length sets) k s p most room lt)
    by [] (suc zero) p some most room low = absurd (omega arith)
    by (m ∷ clue) (suc zero) p some most room low = by_filling (black clue m (length sets) k p (omega arith) lt)
    by clue (suc (suc v)) p some most room low = absurd (omega arith)

-- A line of the board that a search starts from strikes nothing, where it is roomy for its clue.

-- a clue's spelled length and its longest run tell from where on a line is roomy
pub roomy : {clue : List ℕ} (cells longest n : ℕ) → ArePositive clue → 0 < length clue
    → ((k : ℕ) → k < length clue → get_or clue k 0 ≤ longest) → cells ≡ used clue → cells + longest - 1 ≤ n → IsRoomy clue n
roomy {clue} cells longest n positive some each long from = record {
  some = some;
  positive = positive;
  spare = longest;
  more = first clue positive some each;
  short = all clue each;
  fits = omega arith;
}
  where
    first : (clue : List ℕ) → ArePositive clue → 0 < length clue → ((k : ℕ) → k < length clue → get_or clue k 0 ≤ longest) → 0 < longest
    first [] positive some each = absurd (omega arith)
    first (m ∷ clue) positive some each = omega (arith, each 0 some)

    all : (clue : List ℕ) → ((k : ℕ) → k < length clue → get_or clue k 0 ≤ longest) → AllByRecursion (λ m. m ≤ longest) clue
    all [] each = tt
    all (m ∷ clue) each = (each 0 (omega arith), all clue (λ k lt. each (suc k) (omega arith)))

-- each cell of the start has both values, and no other
pub has_both : {cells c v : ℕ} → c < cells → v < 2 → all_of cells 2 c v ≡ true
unfolding all_of
has_both lt small = grind (arith, common_steps, lt-ltb)

two_values : (cells c v : ℕ) → all_of cells 2 c v ≡ true → v < 2
unfolding all_of
two_values cells c v on = ltb-true _ _ (and_parts _ _ on).1

pub start_idle : (p : Pattern) {line : ℕ} → line < lines_of p.size → IsRoomy (clue_of p line) (line_cells p.size line)
    → IsIdle (line_rules p) line (line_rules p).start
start_idle p {line} lt r c v on =
    let K = (line_rules p).start in
    false_from_ne_true (strikes_at 2 (line_places p.size line) (strikes_by_fillings (has_runs (clue_of p line))) K c v) (λ struck.
    let w = strikes_at-some 2 (line_places p.size line) (strikes_by_fillings (has_runs (clue_of p line))) K c v struck in
    let sets = sets_at 2 (line_places p.size line) K in
    let cells : length sets ≡ length (line_places p.size line) = length-sets_at 2 (line_places p.size line) K in
    let size = length-line_places p.size line in
    let inside : (j : ℕ) → j < length sets → j < length (line_places p.size line) = λ j low. omega arith in
    let both : (j : ℕ) (u : ℕ) → j < length sets → u < 2 → has_value (get_or sets j []) u ≡ K (slice_index (line_places p.size line) j) u =
    λ j u low small. sets_at-value 2 (line_places p.size line) K j u (inside j low) small in
    let full : (j : ℕ) → j < length sets → (K (slice_index (line_places p.size line) j) 0 ≡ true) × (K (slice_index (line_places p.size line) j) 1 ≡ true) =
    λ j low. let at = in_grid p.size lt (has_place-here (line_places p.size line) j (inside j low)) in (has_both at (omega arith), has_both at (omega arith)) in
    let none = nothing_struck (clue_of p line) sets w.0 r.positive r.some r.short r.more (omega arith)
    (λ j low. (both j 0 low (omega arith) ∙ (full j low).0, both j 1 low (omega arith) ∙ (full j low).1)) (omega arith) (two_values _ c v on) in
    true≢false (sym w.3 ∙ none))
