-- Houses of a kind, visited in any order.
use Rattle.fields_core.proofs.Common.{AllByRecursion, AreDistinct, AreIdle, ArePlanesAlive, AreVisited, Bool, Candidates, CountHouse, IsHouse, IsInside, IsLeast, Layers, List, [], after_house, after_visits, and-true, and_from, ap, arith, cases_Bool, plane_cells, common_steps, count_by, distinct-from, eq-eqb, eqb, false, false_from_ne_true, false≢true, planes_have, has_place, houses_below, inl, inr, list_any, lt-ltb, ltb, ltb-false, ltb-true, not, not-true, or_cases, or_left, or_parts, or_right, refl, sym, true, true≢false, ℕ, ◌&&◌, ◌<◌, ◌∙◌, ◌∷◌, ◌≡◌, ◌≢◌, ◌≤◌}
use Rattle.fields_core.proofs.VisitLemmas.{IsBinaryAlive, IsOneAtMost, after-inside, sweep-first, sweep-more, visits-met, visits-two, zeros_of}
unfoldable use Rattle.fields_core.proofs.VisitLemmas.{is_met, without_met}
use Rattle.fields_core.proofs.PlaceLists.{any-here, any-some, count-cons, num, some-counted}
use Rattle.fields_core.proofs.IdleLemmas.{AreLinesPassed, AreQuiet, KeepsIdle, idle-first, idle-one, list-kept, list-settled, passed-next, rest-off, rest-on}
use Rattle.fields_core.proofs.PartLemmas.{value-in}
use Rattle.fields_core.proofs.LightRunLines.{each-more}
use Rattle.fields_core.proofs.AtLeastLemmas.{IsAll, all-keeps}
use Rattle.fields_core.proofs.HouseLemmas.{all-houses}

-- Houses of one at most, visited in any order.

-- a house of one at most
pub record IsSingle (cells : ℕ) (house : CountHouse) : Type 0 where
  pub is : IsHouse cells house
  pub least_is : house.least ≡ 0
  pub most_is : house.most ≡ 1

-- the same houses, in whatever order
abbrev pub AreSameHouses : List CountHouse → List CountHouse → Type 0
AreSameHouses some all = (test : CountHouse → Bool) → list_any test some ≡ list_any test all

-- ---- two cells without 0
-- of different places two pass, where more than one does
count-pair : (test : ℕ → Bool) (xs : List ℕ) → AreDistinct xs → 1 < count_by test xs
    → (d : ℕ) × (e : ℕ) × (d ≢ e) × (has_place xs d ≡ true) × (has_place xs e ≡ true) × (test d ≡ true) × (test e ≡ true)
unfolding has_place
count-pair test [] distinct many = absurd (omega (arith, many))
count-pair test (x ∷ xs) distinct many = by (λ more. count-pair test xs distinct.1 more) (test x) refl
  where
    by : (1 < count_by test xs → (d : ℕ) × (e : ℕ) × (d ≢ e) × (has_place xs d ≡ true) × (has_place xs e ≡ true) × (test d ≡ true) × (test e ≡ true))
        → (b : Bool) → test x ≡ b
        → (d : ℕ) × (e : ℕ) × (d ≢ e) × (has_place (x ∷ xs) d ≡ true) × (has_place (x ∷ xs) e ≡ true) × (test d ≡ true) × (test e ≡ true)
    by rest true on =
        let one : num (test x) ≡ 1 = rw on refl in
        let more : 0 < count_by test xs = omega (arith, many, count-cons test x xs, one) in
        let w = any-some test xs (sym (some-counted test xs) ∙ lt-ltb _ _ more) in (
          x,
          w.0,
          λ same. true≢false (sym (rw same w.1) ∙ distinct.0),
          or_left _ _ (eq-eqb x x refl),
          or_right _ _ w.1,
          on,
          w.2,
        )
    by rest false off = grind (arith, common_steps, count_by, count-cons, or_right)

-- more than one cell of the house planes_have no 0
abbrev many_in : Candidates → CountHouse → Bool
many_in K house = ltb 1 (count_by (λ d. not (K d 0)) house.places)

pair-of : (cells : ℕ) (K : Candidates) (houses : List CountHouse) → AllByRecursion (IsSingle cells) houses
    → list_any (many_in K) houses ≡ true
    → (d : ℕ) × (e : ℕ) × (d < cells) × (d ≢ e) × (K d 0 ≡ false) × (K e 0 ≡ false)
    × (list_any (λ house. has_place house.places d && has_place house.places e) houses ≡ true)
pair-of cells K [] each some = absurd (false≢true some)
pair-of cells K (house ∷ houses) (is, each) some = elim (or_cases _ _ some) [
  | inl here ↦
      let w = count-pair (λ d. not (K d 0)) house.places (distinct-from house.places is.is.different)
      (ltb-true _ _ here) in (
        w.0,
        w.1,
        is.is.within w.0 w.3,
        w.2,
        not-true _ w.5,
        not-true _ w.6,
        or_left _
            _ (and_from _ _ w.3 w.4),
      )
  | inr more ↦ grind (arith, common_steps, or_right, pair-of cells K houses each more)
]

few-of : (cells : ℕ) (K : Candidates) (houses : List CountHouse) → AllByRecursion (IsSingle cells) houses
    → list_any (many_in K) houses ≡ false → AllByRecursion (IsOneAtMost cells (zeros_of K)) houses
few-of cells K [] each none = tt
few-of cells K (house ∷ houses) (is, each) none =
    let off = or_parts _ _ none in (
      record { is = is.is; least_is = is.least_is; most_is = is.most_is; few = ltb-false _ _ off.0 },
      few-of cells K houses each off.1,
    )

-- ---- visits in another order
module _ (some all : List CountHouse) (from to : Layers) (fills : Bool) (alive : ArePlanesAlive from)
    (each_some : AllByRecursion (IsSingle (plane_cells from)) some) (each_all : AllByRecursion (IsSingle (plane_cells from)) all)
    (same : AreSameHouses some all) (visited : AreVisited some from to fills) where
  abbrev cells : ℕ
  cells = plane_cells from

  full : IsBinaryAlive cells (planes_have from)
  full = record { low = value-in from; some = alive }

  two : (houses : List CountHouse) → AllByRecursion (IsSingle cells) houses → (d e v : ℕ) → d ≢ e
      → list_any (λ house. has_place house.places d && has_place house.places e) houses ≡ true
      → planes_have from d 0 ≡ false → planes_have from e 0 ≡ false → v < 2 → after_visits houses (planes_have from) d v ≡ false
  two houses each d e v ne on off_d off_e low =
      visits-two cells houses (planes_have from) d e v
      (each-more (IsSingle cells) (λ house. IsHouse cells house × (house.most ≡ 1)) houses (λ house is. (is.is, is.most_is)) each)
      ne on off_d off_e low

  dead : (c : ℕ) → c < cells → ((v : ℕ) → v < 2 → planes_have to c v ≡ false) → ⊥
  dead c lt none = grind (arith, common_steps)

  -- a house planes_have two cells that must be ones
  broken : list_any (many_in (planes_have from)) some ≡ true → AreVisited all from to fills
  broken many =
      let w = pair-of cells (planes_have from) some each_some many in
      record {
        left = λ e. absurd (dead w.0 w.2 (λ v low. ap (λ (L : Candidates). L w.0 v) (visited.left e) ∙ two some each_some w.0 w.1 v w.3 w.6 w.4 w.5 low));
        dies = grind (arith, common_steps, two);
        alive = visited.alive;
        further = visited.further;
      }

  met : (houses : List CountHouse) → AllByRecursion (IsSingle cells) houses → list_any (many_in (planes_have from)) houses ≡ false
      → after_visits houses (planes_have from) ≡ without_met houses (planes_have from)
  met houses each none = visits-met houses (planes_have from) full (few-of cells (planes_have from) houses each none)

  -- no house planes_have two
  whole : list_any (many_in (planes_have from)) some ≡ false → AreVisited all from to fills
  unfolding without_met
  whole none = grind (arith, common_steps, met, list_any, cases_Bool)

  pub visited-any-order : AreVisited all from to fills
  visited-any-order = elim (cases_Bool (list_any (many_in (planes_have from)) some)) [ inl many ↦ broken many | inr none ↦ whole none ]

-- ---- visits that take nothing
-- the cells of a house have 0 in both boards, or in neither
abbrev pub AreZerosKept : (ℕ → Bool) → Candidates → Candidates → Type 0
AreZerosKept has_it K L = (c : ℕ) → has_it c ≡ true → L c 0 ≡ K c 0

module _ (cells : ℕ) (house : CountHouse) (K L : Candidates) (is : IsSingle cells house) (full_K : IsBinaryAlive cells K) (full_L : IsBinaryAlive cells L)
    (inside : IsInside L K) (zeros : AreZerosKept (has_place house.places) K L) (idle : after_house house K ≡ K) where
  -- not two of its cells must be ones
  not-two : {d e : ℕ} → d ≢ e → has_place house.places d ≡ true → has_place house.places e ≡ true → K d 0 ≡ false → K e 0 ≡ false → ⊥
  unfolding after_visits
  not-two {d} {e} ne in_d in_e off_d off_e = elim (full_K.some d (is.is.within d in_d)) [
    | inl zero_on ↦ true≢false (sym zero_on ∙ off_d)
    | inr one_on ↦ true≢false (sym one_on ∙ ap (λ (M : Candidates). M d 1) (sym idle)
        ∙ visits-two cells (house ∷ []) K d e 1 ((is.is, is.most_is), tt) ne (or_left _ _ (and_from _ _ in_d in_e)) off_d off_e (omega arith))
  ]

  none-many : (M : Candidates) → ((c : ℕ) → has_place house.places c ≡ true → M c 0 ≡ K c 0) → list_any (many_in M) (house ∷ []) ≡ false
  none-many M same = grind (arith, common_steps, false_from_ne_true, or_cases, count-pair, distinct-from, ltb-true, not-two, not-true)

  left-by : {M : Candidates} → IsBinaryAlive cells M → ((c : ℕ) → has_place house.places c ≡ true → M c 0 ≡ K c 0)
      → after_house house M ≡ without_met (house ∷ []) M
  unfolding after_visits
  left-by {M} full same = visits-met (house ∷ []) M full (few-of cells M (house ∷ []) (is, tt) (none-many M same))

  pub single-kept : after_house house L ≡ L
  unfolding without_met is_met
  single-kept = grind (arith, common_steps, left-by, list_any, any-some, not-true, and_from, any-here)

-- houses of one at most whose visits take nothing: nor do they where only ones of their cells were lost since
pub singles-kept : (cells : ℕ) (houses : List CountHouse) (K L : Candidates) → AllByRecursion (IsSingle cells) houses
    → IsBinaryAlive cells K → IsBinaryAlive cells L → IsInside L K
    → AreZerosKept (λ c. list_any (λ house. has_place house.places c) houses) K L → after_visits houses K ≡ K → after_visits houses L ≡ L
unfolding after_visits
singles-kept cells [] K L each full_K full_L inside zeros idle = refl
singles-kept cells (house ∷ houses) K L (is, each) full_K full_L inside zeros idle =
    let first = idle-first house houses K idle in
    rw (single-kept cells house K L is full_K full_L inside (λ c on. zeros c (or_left _ _ on)) first)
    (singles-kept cells houses K L each full_K full_L inside (λ c on. zeros c (or_right _ _ on)) (rw first at idle))

-- ---- visits of houses of one at most that leave each cell a value
-- no cell loses 0
pub singles-zeros : {cells : ℕ} (houses : List CountHouse) {K : Candidates} → AllByRecursion (IsSingle cells) houses → IsBinaryAlive cells K
    → IsBinaryAlive cells (after_visits houses K) → (c : ℕ) → after_visits houses K c 0 ≡ K c 0
unfolding without_met
singles-zeros {cells} houses {K} each full after c = elim (cases_Bool (list_any (many_in K) houses)) [
  | inr none ↦ ap (λ (M : Candidates). M c 0) (visits-met houses K full (few-of cells K houses each none)) ∙ and-true (K c 0)
  | inl many ↦
      let w = pair-of cells K houses each many in
      let gone : (v : ℕ) → v < 2 → after_visits houses K w.0 v ≡ false = λ v low. visits-two cells houses K w.0 w.1 v
      (each-more (IsSingle cells) (λ house. IsHouse cells house × (house.most ≡ 1)) houses (λ house is. (is.is, is.most_is)) each) w.3 w.6 w.4 w.5 low in
      elim (after.some w.0 w.2) [
        | inl zero_on ↦ absurd (true≢false (sym zero_on ∙ gone 0 (omega arith)))
        | inr one_on ↦ absurd (true≢false (sym one_on ∙ gone 1 (omega arith)))
      ]
]

-- so others stay idle
pub single-keeps : (cells : ℕ) (visited house : CountHouse) → IsSingle cells visited → IsSingle cells house → KeepsIdle cells visited house
unfolding after_visits
single-keeps cells visited house is other K full still idle = single-kept cells house K (after_house visited K) other full still
    (after-inside visited K) (λ c _. singles-zeros (visited ∷ []) (is, tt) full still c) idle

-- Visits of houses of a sort that leave houses of that sort idle.
pub singles-quiet : (cells : ℕ) → AreQuiet cells (IsSingle cells)
singles-quiet cells = record { different = λ house is. is.is.different; keeps = single-keeps cells }

pub alls-quiet : (cells : ℕ) → AreQuiet cells (IsAll cells)
alls-quiet cells = record { different = λ house is. is.is.different; keeps = all-keeps cells }

alive-full : {cells : ℕ} (s : Layers) → plane_cells s ≡ cells → ArePlanesAlive s → IsBinaryAlive cells (planes_have s)
alive-full s size alive = record { low = value-in s; some = λ c lt. alive c (rw size lt) }

module _ {cells : ℕ} {Is : CountHouse → Type 0} (quiet : AreQuiet cells Is) (f : ℕ → List CountHouse) {n : ℕ}
    (each : (k : ℕ) → k < n → AllByRecursion Is (f k)) {from to : Layers} (size : plane_cells from ≡ cells) (alive : ArePlanesAlive from) where
  -- ---- lists of such houses, visited one after another on planes
  module _ {m : ℕ} (le : m ≤ n) (visited : AreVisited (houses_below f m) from to true) where
    those : AllByRecursion Is (houses_below f m)
    those = all-houses Is f m (λ k lt. each k (omega arith))

    before : IsBinaryAlive cells (planes_have from)
    before = alive-full from size alive

    after : IsBinaryAlive cells (after_visits (houses_below f m) (planes_have from))
    after = rw (visited.left refl) at (alive-full {cells = cells} to (rw (visited.further.same_size) size) visited.alive)

    pub quiet-stays : (others : List CountHouse) → AllByRecursion Is others → AreIdle others (planes_have from) → AreIdle others (planes_have to)
    quiet-stays others each_other idle = rw (visited.left refl) (list-kept quiet others (houses_below f m) (planes_have from) each_other those before after idle)

    pub quiet-done : (k : ℕ) → k < m → AreIdle (f k) (planes_have to)
    quiet-done k lt = idle-one f (planes_have to) lt (rw (visited.left refl) (list-settled quiet (houses_below f m) (planes_have from) those before after))

-- one list
pub quiet-one : {cells : ℕ} {Is : CountHouse → Type 0} → AreQuiet cells Is → (houses : List CountHouse) → AllByRecursion Is houses
    → {from to : Layers} → plane_cells from ≡ cells → ArePlanesAlive from → AreVisited houses from to true
    → (others : List CountHouse) → AllByRecursion Is others → AreIdle others (planes_have from) → AreIdle others (planes_have to)
quiet-one quiet houses each size alive visited others each_other idle =
    quiet-stays quiet (λ _. houses) {n = 1} (λ k lt. each) size alive (omega arith) (sweep-more (λ _. houses) (sweep-first (λ _. houses) alive) visited refl) others each_other idle

-- the next of the lines that are left
pub quiet-next : {cells : ℕ} {Is : CountHouse → Type 0} → AreQuiet cells Is → {f : ℕ → List CountHouse} {n : ℕ} → ((k : ℕ) → k < n → AllByRecursion Is (f k))
    → {left : ℕ → Bool} {from to next : Layers} {room line : ℕ} {fills : Bool} → plane_cells from ≡ cells → AreLinesPassed f n left from to → IsLeast left room line
    → AreVisited (f line) to next fills → fills ≡ true → (rest : ℕ → Bool) → ((k : ℕ) → rest k ≡ (left k && not (eqb k line))) → AreLinesPassed f n rest from next
quiet-next quiet {f} each {line = line} size passed least visited fill rest without = passed-next f passed least visited fill rest
    (λ k on. let w = rest-on least without k on in (w.0, passed.inside k w.1))
    (λ k high lt off. quiet-one quiet (f line) (each line (passed.inside line least.has)) (rw (passed.visited.further.same_size) size) passed.visited.alive
    (rw fill at visited) (f k) (each k lt) (passed.idle k (omega (arith, high, passed.behind line least.has)) lt (rest-off least without high off)))
