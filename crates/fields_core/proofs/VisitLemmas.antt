-- Visits of count houses, one after another; of those of one at most.
use Rattle.fields_core.proofs.Common.{AllByRecursion, AreHouses, AreMet, ArePlanesAlive, AreVisited, Bool, Candidates, CountHouse, CountPuzzle, IsBroken, IsFurther, IsHouse, IsInside, IsTally, Layers, List, Tally, [], after, after_house, after_visits, and-false, and-true, and_parts, ap, append-nil, append_assoc, arith, cases_Bool, cases_eq, plane_cells, common_steps, count_by, count_house_of, count_puzzle, eq-eqb, eqb, false, false_from_ne_true, false≢true, fun_ext, further-more, further-none, get_or-append_right, get_or-append_seam, planes_have, has_place, has_place-at, has_place-here, houses_below, inl, inr, is_empty, is_open, le-ltb, length, length-append, list_any, lt-ltb, ltb, meets_house, ne_eqb, no_count_house, not, or_cases, range_with_len, refl, slice_index, subst, suc, sym, true, true≢false, zero, ℕ, ◌&&◌, ◌*◌, ◌++◌, ◌+◌, ◌-◌, ◌<◌, ◌||◌, ◌∙◌, ◌∷◌, ◌≡◌, ◌≢◌, ◌≤◌, ◌⊎◌}
use Rattle.engine_core.specs.Closing.{replay}
use Rattle.fields_core.proofs.HouseLemmas.{below-more}
use Rattle.fields_core.proofs.CountKept.{after-at, has-value, off-scope}
use Rattle.fields_core.proofs.PlaceLists.{count-none, count-some, count-two, some-counted}

-- Visits of count houses, one after another, and which houses are among those of a puzzle.

-- ---- the board after visits
pub after-inside : (house : CountHouse) (K : Candidates) → IsInside (after_house house K) K
unfolding after_house
after-inside house K = λ c v on. (and_parts _ _ on).0

pub visits-inside : (houses : List CountHouse) (K : Candidates) → IsInside (after_visits houses K) K
unfolding after_visits
visits-inside [] K = λ c v on. on
visits-inside (house ∷ houses) K = λ c v on. after-inside house K c v
    (visits-inside houses (after_house house K) c v on)

pub visits-append : (front back : List CountHouse) (K : Candidates)
    → after_visits (front ++ back) K ≡ after_visits back (after_visits front K)
unfolding after_visits
visits-append [] back K = refl
visits-append (house ∷ front) back K = visits-append front back (after_house house K)

-- ---- the replay over the numbers of a puzzle's houses is the visits of them
visit-is : (cells : ℕ) (blocked : ℕ → Bool) (houses : List CountHouse) (is_solution : List ℕ → Bool) (h : ℕ)
    (K : Candidates) → after (count_puzzle cells blocked houses is_solution) h K ≡ after_house
    (count_house_of houses h) K
unfolding after after_house
visit-is cells blocked houses is_solution h K = refl

replay-on : (front houses : List CountHouse) (cells : ℕ) (blocked : ℕ → Bool) (is_solution : List ℕ → Bool)
    (K : Candidates)
    → replay (count_puzzle cells blocked (front ++ houses) is_solution) K
    (range_with_len (length front) (length houses)) ≡ after_visits houses K
unfolding replay after_visits
replay-on front [] cells blocked is_solution K = refl
replay-on front (house ∷ houses) cells blocked is_solution K = grind (arith, common_steps, length-append, visit-is, get_or-append_seam, replay-on (front ++ house ∷ []) houses cells blocked is_solution (after_house house K))

pub replay-visits : (cells : ℕ) (blocked : ℕ → Bool) (houses : List CountHouse) (is_solution : List ℕ → Bool)
    (K : Candidates)
    → replay (count_puzzle cells blocked houses is_solution) K
    (range_with_len 0 (length houses)) ≡ after_visits houses K
replay-visits cells blocked houses is_solution K = replay-on [] houses cells blocked is_solution K

-- ---- visits on planes
pub visited-none : {p : Layers} → ArePlanesAlive p → AreVisited [] p p true
unfolding after_visits
visited-none {p} alive = record { left = λ _. refl; dies = λ e. absurd (true≢false e); alive = alive; further = further-none p }

-- each house has a filling
pub visited-left : {houses : List CountHouse} {p q : Layers} → planes_have q ≡ after_visits houses (planes_have p) → ArePlanesAlive q → IsFurther p q → AreVisited houses p q true
visited-left left alive further = record { left = λ _. left; dies = λ e. absurd (true≢false e); alive = alive; further = further }

-- a cell is left without a value
pub visited-dies : {houses : List CountHouse} {p : Layers} (c : ℕ) → c < plane_cells p → ((v : ℕ) → v < 2 → after_visits houses (planes_have p) c v ≡ false)
    → ArePlanesAlive p → AreVisited houses p p false
visited-dies {p} c lt none alive = record { left = λ e. absurd (true≢false (sym e)); dies = λ _. (c, lt, none); alive = alive; further = further-none p }

-- of one house, which has a cell
pub visited-one : {house : CountHouse} {p q : Layers} {fills : Bool} → IsHouse (plane_cells p) house
    → 0 < length house.places → (fills ≡ true → planes_have q ≡ after_house house (planes_have p))
    → (fills ≡ false → IsBroken house (planes_have p)) → ArePlanesAlive q → IsFurther p q → AreVisited (house ∷ []) p q fills
unfolding after_visits
visited-one {house} is some left broken alive further = record {
  left = left;
  dies = λ e. let there = has_place-here house.places 0 some in
      (slice_index house.places 0, is.within _ there, λ v low. broken e _ v there low);
  alive = alive;
  further = further;
}

-- then of more
pub visited-more : {front back : List CountHouse} {p q r : Layers} {full fills : Bool}
    → AreVisited front p q full → full ≡ true → AreVisited back q r fills → AreVisited (front ++ back) p r fills
visited-more {front} {back} {p} {q} {r} first is next = grind (arith, common_steps, visits-append, further-more)

-- or no more, where a cell has no value
pub visited-dead : {front : List CountHouse} (back : List CountHouse) {p q : Layers} {full : Bool}
    → AreVisited front p q full → full ≡ false → AreVisited (front ++ back) p q full
visited-dead {front} back {p} first is = grind (arith, common_steps, visits-append, false_from_ne_true, visits-inside)

-- ---- the houses of the numbers below n
pub below-rest : (f : ℕ → List CountHouse) (n d : ℕ)
    → (rest : List CountHouse) × (houses_below f (n + d) ≡ houses_below f n ++ rest)
unfolding houses_below
below-rest f n zero = let e : n + 0 ≡ n = omega arith in ([], rw e (sym (append-nil (houses_below f n))))
below-rest f n (suc d) =
    let e : n + suc d ≡ suc (n + d) = omega arith in let w = below-rest f n d in
    (w.0 ++ f (n + d), rw (e, w.1) (append_assoc (houses_below f n) w.0 (f (n + d))))

pub sweep-first : (f : ℕ → List CountHouse) {p : Layers} → ArePlanesAlive p → AreVisited (houses_below f 0) p p true
unfolding houses_below
sweep-first f alive = visited-none alive

pub sweep-more : (f : ℕ → List CountHouse) {n : ℕ} {p q r : Layers} {fills : Bool}
    → AreVisited (houses_below f n) p q true → AreVisited (f n) q r fills → fills ≡ true
    → AreVisited (houses_below f (n + 1)) p r true
sweep-more f {n} first next full = rw (below-more f n) (visited-more first refl (rw full at next))

pub sweep-broken : (f : ℕ → List CountHouse) {n m : ℕ} {p q r : Layers} {fills : Bool}
    → AreVisited (houses_below f n) p q true → AreVisited (f n) q r fills → fills ≡ false → n < m
    → AreVisited (houses_below f m) p r false
sweep-broken f {n} {m} first next none lt =
    let w = below-rest f (n + 1) (m - (n + 1)) in let e : n + 1 + (m - (n + 1)) ≡ m = omega arith in
    rw (← e, w.1) (visited-dead w.0 (rw (below-more f n) (visited-more first refl (rw none at next))) refl)

-- the houses of rows of so many numbers, row by row
below-add : (f : ℕ → List CountHouse) (m n : ℕ) → houses_below f (m + n) ≡ houses_below f m ++ houses_below (λ k. f (m + k)) n
unfolding houses_below
below-add f m zero = let e : m + 0 ≡ m = omega arith in rw e (sym (append-nil (houses_below f m)))
below-add f m (suc n) =
    let e : m + suc n ≡ suc (m + n) = omega arith in
    rw (e, below-add f m n) (append_assoc (houses_below f m) (houses_below (λ k. f (m + k)) n) (f (m + n)))

pub below-rows : (f : ℕ → List CountHouse) (w h : ℕ) → houses_below (λ y. houses_below (λ x. f (y * w + x)) w) h ≡ houses_below f (h * w)
unfolding houses_below
below-rows f w zero = let e : 0 * w ≡ 0 = omega arith in rw e refl
below-rows f w (suc h) = let e : suc h * w ≡ h * w + w = omega arith in rw (e, below-add f (h * w) w, below-rows f w h) refl

-- ---- a house among others
pub record IsAmong (house : CountHouse) (houses : List CountHouse) : Type 0 where
  pub number : ℕ
  pub within : number < length houses
  pub is : count_house_of houses number ≡ house

pub among-one : (house : CountHouse) → IsAmong house (house ∷ [])
among-one house = record { number = 0; within = omega arith; is = refl }

pub among-front : {house : CountHouse} {front : List CountHouse} (back : List CountHouse) → IsAmong house front → IsAmong house (front ++ back)
among-front {front} back among = grind (arith, common_steps, length-append)

pub among-back : {house : CountHouse} (front : List CountHouse) {back : List CountHouse} → IsAmong house back → IsAmong house (front ++ back)
among-back front {back} among = record {
  number = length front + among.number;
  within = omega (arith, length-append front back, among.within);
  is = get_or-append_right front back (length front) (length front + among.number) no_count_house refl
      (omega arith) ∙ (let e : length front + among.number - length front ≡ among.number = omega arith in rw e among.is);
}

pub among-below : (house : CountHouse) (f : ℕ → List CountHouse) {n m : ℕ} → n < m → IsAmong house (f n)
    → IsAmong house (houses_below f m)
among-below house f {n} {m} lt among =
    let w = below-rest f (n + 1) (m - (n + 1)) in let e : n + 1 + (m - (n + 1)) ≡ m = omega arith in
    rw (← e, w.1) (among-front {house = house} {front = (houses_below f (n + 1))} w.0
    (rw (below-more f n) (among-back (houses_below f n) among)))

pub among-house : {house : CountHouse} {houses : List CountHouse} (cells : ℕ) → AreHouses cells houses
    → IsAmong house houses → IsHouse cells house
among-house cells are among = subst (IsHouse cells) among.is (are among.number among.within)

pub among-met : {p : CountPuzzle} {g : List ℕ} {house : CountHouse} → AreMet p g → IsAmong house p.houses → 0 < length house.places → meets_house house g ≡ true
among-met {p} {g} met among = grind (arith, common_steps)

-- Visits of houses of one at most, one after another, by the cells that can have 0.
abbrev pub zeros_of : Candidates → ℕ → Bool
zeros_of K d = K d 0

-- a cell of the house, where some cell of it has no 0
unfoldable pub is_met : (ℕ → Bool) → CountHouse → ℕ → Bool
is_met zeros house c = has_place house.places c && list_any (λ d. not (zeros d)) house.places

-- the board without the ones that the houses strike
unfoldable pub without_met : List CountHouse → Candidates → Candidates
without_met houses K c v = K c v && not (eqb v 1 && (K c 0 && list_any (λ house. is_met (zeros_of K) house c) houses))

-- a house of one at most, of whose cells one at most has no 0
pub record IsOneAtMost (cells : ℕ) (zeros : ℕ → Bool) (house : CountHouse) : Type 0 where
  pub is : IsHouse cells house
  pub least_is : house.least ≡ 0
  pub most_is : house.most ≡ 1
  pub few : count_by (λ d. not (zeros d)) house.places ≤ 1

-- a board of values below 2, with one for each cell
pub record IsBinaryAlive (cells : ℕ) (K : Candidates) : Type 0 where
  pub low : (c v : ℕ) → K c v ≡ true → v < 2
  pub some : (c : ℕ) → c < cells → (K c 0 ≡ true) ⊎ (K c 1 ≡ true)

abbrev tally_in : Candidates → List ℕ → Tally
tally_in K places = record {
  must = count_by (λ d. not (K d 0)) places;
  may = count_by (λ d. K d 1) places;
  empty = count_by (is_empty K) places;
}

counted-in : (K : Candidates) (places : List ℕ) → IsTally K places (tally_in K places)
counted-in K places = record { must_is = refl; may_is = refl; empty_is = refl }

gone-stays : (house : CountHouse) (K : Candidates) (c v : ℕ) → K c v ≡ false → after_house house K c v ≡ false
unfolding after_house
gone-stays house K c v off = rw off refl

pub others-stay : (house : CountHouse) (K : Candidates) (c v : ℕ) → has_place house.places c ≡ false → after_house house K c v ≡ K c v
unfolding after_house
others-stay house K c v out = rw (off-scope house K c v out) (and-true (K c v))

-- ---- one house, of one at most
after-met : {cells : ℕ} {house : CountHouse} {K : Candidates} (c v : ℕ) → IsBinaryAlive cells K → IsOneAtMost cells (zeros_of K) house
    → after_house house K c v ≡ (K c v && not (eqb v 1 && (K c 0 && is_met (zeros_of K) house c)))
unfolding is_met
after-met {cells} {house} {K} c v full one = elim (cases_Bool (K c v)) [
  | inr off ↦ gone-stays house K c v off ∙ rw off refl
  | inl on ↦ elim (cases_Bool (has_place house.places c)) [
    | inr out ↦ others-stay house K c v out ∙ rw (on, out, and-false (K c 0), and-false (eqb v 1)) refl
    | inl there ↦
        let w = has_place-at house.places c there in
        let left = rw w.2 at (after-at cells house K (tally_in K house.places) one.is (counted-in K house.places) w.1 (full.low c v on)) in
        left ∙ rw (there, on, one.least_is, one.most_is, none)
        (by v (full.low c v on) (count_by (λ d. not (K d 0)) house.places)
        (count_by (λ d. K d 1) house.places) _ one.few on
        (some-counted (λ d. not (K d 0)) house.places)
        (λ both. count-some (λ d. K d 1) house.places c there both))
  ]
]
  where
    none : count_by (is_empty K) house.places ≡ 0
    none = count-none (is_empty K) house.places (λ d there. has-value K d (full.some d (one.is.within d there)))

    by : (v : ℕ) → v < 2 → (must may : ℕ) (any : Bool) → must ≤ 1 → K c v ≡ true → ltb 0 must ≡ any → (K c 1 ≡ true → 1 ≤ may)
        → (not (ltb 0 0 || (ltb 1 0 || (ltb may 0 || ltb 1 must))) && not (is_open K c && ((eqb v 1 && eqb must 1) || (eqb v 0 && eqb may 0))))
        ≡ not (eqb v 1 && (K c 0 && any))
    by v low must may any few on is some = grind (arith, common_steps, cases_Bool (K c 0), cases_Bool (K c 1), cases_Bool any, cases_eq must 1, cases_eq may 0, cases_eq v 1, eq-eqb, ne_eqb, lt-ltb, le-ltb)

-- no cell loses 0
pub zeros-stay : {cells : ℕ} {house : CountHouse} {K : Candidates} → IsBinaryAlive cells K
    → IsOneAtMost cells (zeros_of K) house → zeros_of (after_house house K) ≡ zeros_of K
zeros-stay {house} {K} full one = fun_ext λ d. after-met d 0 full one ∙ and-true (K d 0)

full-after : {cells : ℕ} {house : CountHouse} {K : Candidates} → IsBinaryAlive cells K
    → IsOneAtMost cells (zeros_of K) house → IsBinaryAlive cells (after_house house K)
full-after {cells} {house} {K} full one = grind (arith, common_steps, and_parts, after-met, cases_Bool)

-- ---- houses of one at most, one after another
pub visits-met : {cells : ℕ} (houses : List CountHouse) (K : Candidates) → IsBinaryAlive cells K
    → AllByRecursion (IsOneAtMost cells (zeros_of K)) houses → after_visits houses K ≡ without_met houses K
unfolding after_visits without_met
visits-met [] K full all = grind (arith, common_steps, cases_Bool)
visits-met {cells} (house ∷ houses) K full (one, all) =
    let stay = zeros-stay full one in
    visits-met houses (after_house house K) (full-after full one) (subst (λ (z : ℕ → Bool). AllByRecursion (IsOneAtMost cells z) houses) (sym stay) all)
    ∙ fun_ext λ c. fun_ext λ v. rw (stay, ap (λ (f : ℕ → Bool). f c) stay, after-met c v full one)
    (grind (arith, common_steps, cases_Bool (K c v), cases_Bool (eqb v 1), cases_Bool (K c 0), cases_Bool (is_met (zeros_of K) house c), cases_Bool (list_any (λ h. is_met (zeros_of K) h c) houses)))

-- ---- two cells of a house without 0
after-two : {cells : ℕ} {house : CountHouse} (K : Candidates) {d e v : ℕ} → IsHouse cells house → house.most ≡ 1
    → d ≢ e → has_place house.places d ≡ true → has_place house.places e ≡ true → K d 0 ≡ false → K e 0 ≡ false
    → v < 2 → after_house house K d v ≡ false
after-two {cells} {house} K {d} {e} {v} is one ne in_d in_e off_d off_e low =
    let w = has_place-at house.places d in_d in
    let many = count-two (λ c. not (K c 0)) house.places d e in_d in_e (ap not off_d) (ap not off_e) ne in
    rw w.2 at (after-at cells house K (tally_in K house.places) is (counted-in K house.places) w.1 low)
    ∙ rw (one, lt-ltb _ _ many) (by (K d v) (ltb 0 (count_by (is_empty K) house.places)) (ltb 1 house.least) (ltb (count_by (λ c. K c 1) house.places) house.least) _)
  where
    by : (a b c d e : Bool) → (a && (not (b || (c || (d || true))) && e)) ≡ false
    by a b c d e = grind (arith, common_steps, cases_Bool a, cases_Bool b, cases_Bool c, cases_Bool d)

-- one of the houses leaves no value in the first of two cells without 0
pub visits-two : (cells : ℕ) (houses : List CountHouse) (K : Candidates) (d e v : ℕ)
    → AllByRecursion (λ house. IsHouse cells house × (house.most ≡ 1)) houses → d ≢ e
    → list_any (λ house. has_place house.places d && has_place house.places e) houses ≡ true
    → K d 0 ≡ false → K e 0 ≡ false → v < 2 → after_visits houses K d v ≡ false
unfolding after_visits
visits-two cells [] K d e v all ne some off_d off_e low = absurd (false≢true some)
visits-two cells (house ∷ houses) K d e v ((is, one), all) ne some off_d off_e low = elim (or_cases _ _ some) [
  | inl here ↦
      let both = and_parts _ _ here in
      dead (after_visits houses (after_house house K) d v)
      (λ on. visits-inside houses (after_house house K) d v on)
      (after-two K is one ne both.0 both.1 off_d off_e low)
  | inr more ↦ visits-two cells houses (after_house house K) d e v all ne more (gone-stays house K d 0 off_d) (gone-stays house K e 0 off_e) low
]
  where
    dead : (a : Bool) {b : Bool} → (a ≡ true → b ≡ true) → b ≡ false → a ≡ false
    dead a {b} inside off = grind (arith, common_steps, cases_Bool a)
