-- Houses that are idle: one by one, in parts of a list, and by lines.
use Rattle.fields_core.proofs.Common.{AllByRecursion, AreDifferent, AreIdle, ArePlanesAlive, AreVisited, Bool, Candidates, CountHouse, IsClosed, IsInside, IsLeast, Layers, List, [], after_house, after_visits, and_parts, any_below, any_below-here, any_below-none, any_below-some, ap, append_assoc, arith, by_fillings-monotone, by_fillings-settled, cases_Bool, cases_eq, cases_lt, common_steps, count_below, count_below-lt, count_house_of, count_puzzle, counts_between, eq-eqb, eqb, false, false_from_ne_true, fun_ext, further-none, get_or-append_seam, planes_have, has_place, houses_below, inl, inr, le-ltb, length, length-append, list_any, list_any-append, lt-ltb, ltb, ne_eqb, no_count_house, not, not-true, or_cases, refl, strikes_at-inside, strikes_of, suc, sym, true, true≢false, zero, ℕ, ◌&&◌, ◌++◌, ◌+◌, ◌-◌, ◌<◌, ◌||◌, ◌∙◌, ◌∷◌, ◌≡◌, ◌≤◌, ◌⊎◌}
use Rattle.fields_core.proofs.VisitLemmas.{IsBinaryAlive, after-inside, below-rest, others-stay, sweep-broken, sweep-first, sweep-more, visited-left, visited-more, visits-append, visits-inside}
use Rattle.fields_core.proofs.HouseLemmas.{below-more}
use Rattle.fields_core.proofs.CellLemmas.{first-off}

-- Houses whose visits take nothing, which stay idle while others of their kind are visited, and boards that have changed far from them.

-- a board between two that have a value in each cell
pub full-between : {cells : ℕ} {K L M : Candidates} → IsBinaryAlive cells K → IsBinaryAlive cells M → IsInside L K → IsInside M L → IsBinaryAlive cells L
full-between {K} {L} {M} first last inside within = grind (arith, common_steps)

-- ---- one house
-- the cells that lost a value are none of the places
abbrev pub IsFar : (ℕ → Bool) → Candidates → Candidates → Type 0
IsFar has_it K L = (c v : ℕ) → K c v ≡ true → L c v ≡ false → has_it c ≡ false

pub house-far : (house : CountHouse) {K L : Candidates} → IsInside L K → IsFar (has_place house.places) K L
    → after_house house K ≡ K → after_house house L ≡ L
unfolding after_house strikes_of
house-far house {K} {L} inside far idle = grind (arith, common_steps, cases_Bool, strikes_at-inside, by_fillings-monotone)

-- ---- lists of houses
-- a house of the list has the place
unfoldable pub any_has : List CountHouse → ℕ → Bool
any_has houses c = list_any (λ house. has_place house.places c) houses

pub idle-first : (house : CountHouse) (houses : List CountHouse) (K : Candidates) → AreIdle (house ∷ houses) K → after_house house K ≡ K
unfolding after_visits
idle-first house houses K idle = fun_ext λ c. fun_ext λ v. elim (cases_Bool (K c v)) [
  | inl on ↦ visits-inside houses (after_house house K) c v (ap (λ (L : Candidates). L c v) idle ∙ on) ∙ sym on
  | inr off ↦ false_from_ne_true _ (λ on. true≢false (sym (after-inside house K c v on) ∙ off)) ∙ sym off
]

pub idle-rest : (house : CountHouse) (houses : List CountHouse) (K : Candidates) → AreIdle (house ∷ houses) K → AreIdle houses K
unfolding after_visits
idle-rest house houses K idle = rw (idle-first house houses K idle) at idle

-- houses far from what has changed stay idle
pub idle-far : (houses : List CountHouse) (K L : Candidates) → IsInside L K → IsFar (any_has houses) K L → AreIdle houses K → AreIdle houses L
unfolding after_visits any_has
idle-far [] K L inside far idle = refl
idle-far (house ∷ houses) K L inside far idle =
    rw (house-far house inside (λ c v on off. (far-of c v on off).0) (idle-first house houses K idle))
    (idle-far houses K L inside (λ c v on off. (far-of c v on off).1) (idle-rest house houses K idle))
  where
    far-of : (c v : ℕ) → K c v ≡ true → L c v ≡ false → (has_place house.places c ≡ false) × (any_has houses c ≡ false)
    far-of c v on off = grind (arith, common_steps, cases_Bool)

-- a visit of idle houses takes nothing
pub visited-idle : (houses : List CountHouse) {p : Layers} → ArePlanesAlive p → AreIdle houses (planes_have p) → AreVisited houses p p true
visited-idle houses {p} alive idle = visited-left (sym idle) alive (further-none p)

-- ---- a list among others
pub any-append : (front back : List CountHouse) (c : ℕ) → any_has (front ++ back) c ≡ (any_has front c || any_has back c)
unfolding any_has
any-append front back c = list_any-append (λ house. has_place house.places c) front back

pub any-below : (f : ℕ → List CountHouse) (n c : ℕ) → any_has (houses_below f n) c ≡ true → (k : ℕ) × (k < n) × (any_has (f k) c ≡ true)
unfolding any_has houses_below
any-below f zero c on = absurd (true≢false (sym on))
any-below f (suc n) c on = elim (or_cases _ _ (sym (any-append (houses_below f n) (f n) c) ∙ on)) [
  | inl less ↦ let w = any-below f n c less in (w.0, omega (arith, w.1), w.2)
  | inr here ↦ (n, omega arith, here)
]

pub any-none : (c : ℕ) → any_has [] c ≡ false
unfolding any_has
any-none c = refl

pub any-one : (house : CountHouse) (c : ℕ) → any_has (house ∷ []) c ≡ true → has_place house.places c ≡ true
unfolding any_has
any-one house c on = grind (arith, common_steps, cases_Bool (has_place house.places c))

-- visits of idle lists go on to further ones
visited-further : (f : ℕ → List CountHouse) {from to : Layers} (n d : ℕ) → AreVisited (houses_below f n) from to true
    → ((k : ℕ) → n ≤ k → k < n + d → AreIdle (f k) (planes_have to)) → AreVisited (houses_below f (n + d)) from to true
visited-further f n zero visited idle = let e : n + 0 ≡ n = omega arith in rw e visited
visited-further f {from} {to} n (suc d) visited idle =
    let e : n + suc d ≡ n + d + 1 = omega arith in let less = visited-further f n d visited (λ k le lt. idle k le (omega arith)) in
    rw e (sweep-more f less (visited-idle (f (n + d)) less.alive (idle (n + d) (omega arith) (omega arith))) refl)

pub visited-skip : (f : ℕ → List CountHouse) {from to : Layers} {n m : ℕ} → n ≤ m → AreVisited (houses_below f n) from to true
    → ((k : ℕ) → n ≤ k → k < m → AreIdle (f k) (planes_have to)) → AreVisited (houses_below f m) from to true
visited-skip f {from} {to} {n} {m} le visited idle =
    let e : n + (m - n) ≡ m = omega arith in rw e at (visited-further f n (m - n) visited (λ k at lt. idle k at (omega arith)))

-- a second visit of a house takes nothing
house-settled : (house : CountHouse) (K : Candidates) → AreDifferent house.places → after_house house (after_house house K) ≡ after_house house K
unfolding after_house strikes_of
house-settled house K different = fun_ext λ c. fun_ext λ v. elim (cases_Bool (after_house house K c v)) [
  | inl on ↦ rw (on, by_fillings-settled 2 house.places (counts_between house.least house.most) K (after_house house K) different (λ d u. refl) c v on) refl
  | inr off ↦ rw off refl
]

-- a visit of the first that leaves each cell a value leaves the second idle, if it was
abbrev pub KeepsIdle : ℕ → CountHouse → CountHouse → Type 0
KeepsIdle cells visited house = (K : Candidates) → IsBinaryAlive cells K → IsBinaryAlive cells (after_house visited K)
    → after_house house K ≡ K → after_house house (after_house visited K) ≡ after_house visited K

pub keeps-itself : (cells : ℕ) (house : CountHouse) → KeepsIdle cells house house
keeps-itself cells house K full still idle = ap (after_house house) idle

pub keeps-apart : (cells : ℕ) (visited house : CountHouse) → ((c : ℕ) → has_place visited.places c ≡ true → has_place house.places c ≡ false)
    → KeepsIdle cells visited house
keeps-apart cells visited house apart K full still idle = grind (arith, common_steps, house-far, after-inside, cases_Bool, others-stay)

-- ---- lists of houses of a kind, each of which keeps each
pub record AreQuiet (cells : ℕ) (Is : CountHouse → Type 0) : Type 0 where
  pub different : (house : CountHouse) → Is house → AreDifferent house.places
  pub keeps : (visited house : CountHouse) → Is visited → Is house → KeepsIdle cells visited house

module _ {cells : ℕ} {Is : CountHouse → Type 0} (quiet : AreQuiet cells Is) where
  one-kept : (house : CountHouse) (visited : List CountHouse) (K : Candidates) → Is house → AllByRecursion Is visited → IsBinaryAlive cells K
      → IsBinaryAlive cells (after_visits visited K) → after_house house K ≡ K → after_house house (after_visits visited K) ≡ after_visits visited K
  unfolding after_visits
  one-kept house [] K is each full still idle = idle
  one-kept house (first ∷ visited) K is (one, each) full still idle =
      let between = full-between full still (after-inside first K) (visits-inside visited (after_house first K)) in
      one-kept house visited (after_house first K) is each between still (quiet.keeps first house one is K full between idle)

  -- visits leave houses idle that were
  pub list-kept : (houses visited : List CountHouse) (K : Candidates) → AllByRecursion Is houses → AllByRecursion Is visited → IsBinaryAlive cells K
      → IsBinaryAlive cells (after_visits visited K) → AreIdle houses K → AreIdle houses (after_visits visited K)
  unfolding after_visits
  list-kept [] visited K each all full still idle = refl
  list-kept (house ∷ houses) visited K (is, each) all full still idle = grind (arith, common_steps, one-kept, idle-first, idle-rest, list-kept houses visited K each all full still (idle-rest house houses K idle))

  -- and those that were visited
  pub list-settled : (houses : List CountHouse) (K : Candidates) → AllByRecursion Is houses → IsBinaryAlive cells K
      → IsBinaryAlive cells (after_visits houses K) → AreIdle houses (after_visits houses K)
  unfolding after_visits
  list-settled [] K each full still = refl
  list-settled (house ∷ houses) K (is, each) full still =
      let between = full-between full still (after-inside house K) (visits-inside houses (after_house house K)) in
      rw (one-kept house houses (after_house house K) is each between still (house-settled house K (quiet.different house is)))
      (list-settled houses (after_house house K) each between still)

-- Houses that stand one after another among others. Of a closed board all are idle.

-- ---- a part of a list
pub record IsPartOf (part all : List CountHouse) : Type 0 where
  pub front : List CountHouse
  pub back : List CountHouse
  pub is : all ≡ front ++ (part ++ back)

pub in-front : (part front back : List CountHouse) → IsPartOf part front → IsPartOf part (front ++ back)
in-front part front back within = grind (arith, common_steps)

pub in-back : {part : List CountHouse} (front : List CountHouse) {back : List CountHouse} → IsPartOf part back → IsPartOf part (front ++ back)
in-back {part} front {back} within = record {
  front = front ++ within.front;
  back = within.back;
  is = rw within.is (sym (append_assoc front within.front (part ++ within.back)));
}

pub in-below : (f : ℕ → List CountHouse) {k n : ℕ} → k < n → IsPartOf (f k) (houses_below f n)
in-below f {k} {n} lt =
    let e : k + 1 + (n - (k + 1)) ≡ n = omega arith in rw e at (next k (n - (k + 1)))
  where
    next : (k more : ℕ) → IsPartOf (f k) (houses_below f (k + 1 + more))
    next k more =
        let w = below-rest f (k + 1) more in
        record {
          front = houses_below f k;
          back = w.0;
          is = w.1 ∙ rw (below-more f k) (append_assoc (houses_below f k) (f k) w.0);
        }

-- ---- lists of idle houses
-- the houses of the lists below n, where each list is idle
pub below-idle : (f : ℕ → List CountHouse) (n : ℕ) (K : Candidates) → ((k : ℕ) → k < n → AreIdle (f k) K) → AreIdle (houses_below f n) K
unfolding houses_below after_visits
below-idle f zero K each = refl
below-idle f (suc n) K each = grind (arith, common_steps, visits-append, below-idle f n K (λ k lt. each k (omega arith)))

-- each list of idle houses is idle
idle-parts : (front back : List CountHouse) (K : Candidates) → AreIdle (front ++ back) K → AreIdle front K × AreIdle back K
unfolding after_visits
idle-parts [] back K idle = (refl, idle)
idle-parts (house ∷ front) back K idle =
    let first = idle-first house (front ++ back) K idle in
    let rest = idle-parts front back K (idle-rest house (front ++ back) K idle) in (rw first rest.0, rest.1)

pub idle-one : (f : ℕ → List CountHouse) {n k : ℕ} (K : Candidates) → k < n → AreIdle (houses_below f n) K → AreIdle (f k) K
idle-one f {n} {k} K lt idle =
    let within = in-below f lt in
    (idle-parts (f k) within.back K (idle-parts within.front (f k ++ within.back) K (rw (within.is) at idle)).1).0

-- ---- houses of a closed board
module _ (cells : ℕ) (blocked : ℕ → Bool) (houses : List CountHouse) (is_solution : List ℕ → Bool) (K : Candidates)
    (closed : IsClosed (count_puzzle cells blocked houses is_solution) K) where
  house-idle : (front : List CountHouse) (house : CountHouse) (back : List CountHouse) → houses ≡ front ++ house ∷ back → after_house house K ≡ K
  unfolding after_house
  house-idle front house back is = fun_ext λ c. fun_ext λ v.
      let at : count_house_of houses (length front) ≡ house = rw is (get_or-append_seam front house back no_count_house) in
      let here = closed (length front) c v (rw is (omega (arith, length-append front (house ∷ back)))) in
      by c v (rw at at here) (cases_Bool (K c v))
    where
      by : (c v : ℕ) → (K c v ≡ true → strikes_of house K c v ≡ false)
          → (K c v ≡ true) ⊎ (K c v ≡ false) → (K c v && not (strikes_of house K c v)) ≡ K c v
      by c v here (inr gone) = rw gone refl
      by c v here (inl on) = rw (on, here on) refl

  part-idle : (front part back : List CountHouse) → houses ≡ front ++ (part ++ back) → AreIdle part K
  unfolding after_visits
  part-idle front [] back is = refl
  part-idle front (house ∷ part) back is = grind (arith, common_steps, house-idle, part-idle (front ++ house ∷ []) part back (is ∙ sym (append_assoc front (house ∷ []) (part ++ back))))

  pub closed-idle : {part : List CountHouse} → IsPartOf part houses → AreIdle part K
  closed-idle {part} within = part-idle within.front part within.back within.is

-- Visits of the houses of some lines, one after another: those that are left of a word.

-- ---- how many places there are from the lowest one of a word on
abbrev pub places_on : (ℕ → Bool) → ℕ → ℕ
places_on left room = count_below (λ k. any_below left (suc k)) room

-- fewer, where all that are left come after it
pub fewer-on : {left rest : ℕ → Bool} {room least : ℕ} → IsLeast left room least → ((k : ℕ) → rest k ≡ true → least < k) → places_on rest room < places_on left room
fewer-on {left} {rest} {room} {least} is on =
    count_below-lt (λ k. any_below rest (suc k)) (λ k. any_below left (suc k)) room least
    (λ k lt some. let w = any_below-some rest (suc k) some in any_below-here left (suc k) least (omega (arith, on w.0 w.2, w.1)) is.has)
    is.within
    (false_from_ne_true _ (λ some. let w = any_below-some rest (suc least) some in absurd (omega (arith, on w.0 w.2, w.1))))
    (any_below-here left (suc least) least (omega arith) is.has)

-- ---- the houses of the lines so far are visited, and those of the lines behind them that are not left are idle
pub record AreLinesPassed (f : ℕ → List CountHouse) (n : ℕ) (left : ℕ → Bool) (from to : Layers) : Type 0 where
  pub line : ℕ
  pub line_in : line ≤ n
  pub behind : (k : ℕ) → left k ≡ true → line ≤ k
  pub inside : (k : ℕ) → left k ≡ true → k < n
  pub visited : AreVisited (houses_below f line) from to true
  pub idle : (k : ℕ) → line ≤ k → k < n → left k ≡ false → AreIdle (f k) (planes_have to)

pub passed-first : (f : ℕ → List CountHouse) {n : ℕ} {left : ℕ → Bool} {from : Layers} → ArePlanesAlive from → ((k : ℕ) → left k ≡ true → k < n)
    → ((k : ℕ) → k < n → left k ≡ false → AreIdle (f k) (planes_have from)) → AreLinesPassed f n left from from
passed-first f alive inside idle = grind (arith, common_steps, sweep-first)

module _ (f : ℕ → List CountHouse) {n : ℕ} {left : ℕ → Bool} {from to : Layers} where
  -- none is left
  pub passed-all : {room : ℕ} → AreLinesPassed f n left from to → n ≤ room → any_below left room ≡ false → AreVisited (houses_below f n) from to true
  passed-all {room} passed low none =
      visited-skip f passed.line_in passed.visited (λ k at lt. passed.idle k at lt (any_below-none left room none k (omega (arith, lt, low))))

  module _ {room line : ℕ} (passed : AreLinesPassed f n left from to) (least : IsLeast left room line) where
    below : AreVisited (houses_below f line) from to true
    below = grind (arith, common_steps, visited-skip)

    -- the next line has a house with no filling
    pub passed-broken : {next : Layers} {fills : Bool} → AreVisited (f line) to next fills → fills ≡ false → AreVisited (houses_below f n) from next false
    passed-broken visited none = sweep-broken f below visited none (passed.inside line least.has)

    -- or others later leave a cell without a value, whatever is visited between
    pub passed-doomed : {next : Layers} (later others : List CountHouse) → ((others : List CountHouse) → AreVisited (f line ++ (others ++ later)) to next false)
        → AreVisited (houses_below f n ++ (others ++ later)) from next false
    passed-doomed later others dies =
        let w = below-rest f (line + 1) (n - (line + 1)) in let e : line + 1 + (n - (line + 1)) ≡ n = omega (arith, passed.inside line least.has) in
        rw (
          ← e,
          w.1,
          below-more f line,
          append_assoc (houses_below f line ++ f line) w.0 (others ++ later),
          append_assoc (houses_below f line) (f line) (w.0 ++ (others ++ later)),
          ← append_assoc w.0 others later,
        ) (visited-more below refl (dies (w.0 ++ others)))

    -- or none, and lines behind it are left
    pub passed-next : {next : Layers} {fills : Bool} → AreVisited (f line) to next fills → fills ≡ true → (rest : ℕ → Bool) → ((k : ℕ) → rest k ≡ true → (line < k) × (k < n))
        → ((k : ℕ) → line < k → k < n → rest k ≡ false → AreIdle (f k) (planes_have next)) → AreLinesPassed f n rest from next
    passed-next visited fill rest on idle = record {
      line = line + 1;
      line_in = omega (arith, passed.inside line least.has);
      behind = λ k there. omega (arith, (on k there).0);
      inside = λ k there. (on k there).1;
      visited = sweep-more f below visited fill;
      idle = λ k at lt off. idle k (omega (arith, at)) lt off;
    }

-- the least is taken from what is left
module _ {left rest : ℕ → Bool} {room least : ℕ} (is : IsLeast left room least) (without : (k : ℕ) → rest k ≡ (left k && not (eqb k least))) where
  pub rest-on : (k : ℕ) → rest k ≡ true → (least < k) × (left k ≡ true)
  rest-on k on = grind (arith, common_steps, and_parts, cases_lt, cases_eq, eq-eqb)

  pub rest-off : {k : ℕ} → least < k → rest k ≡ false → left k ≡ false
  rest-off {k} high off = first-off (ap not (ne_eqb k least (λ e. absurd (omega (arith, e, high))))) (sym (without k) ∙ off)

-- places of a word behind one
module _ (word first rest : ℕ → Bool) (line : ℕ) (first_is : (k : ℕ) → first k ≡ ltb k (line + 1)) (is : (k : ℕ) → rest k ≡ (word k && not (first k))) where
  pub from-on : (k : ℕ) → rest k ≡ true → (line < k) × (word k ≡ true)
  from-on k on = grind (arith, common_steps, and_parts, cases_lt, lt-ltb, not-true)

  pub from-off : {k : ℕ} → line < k → rest k ≡ false → word k ≡ false
  from-off {k} high off = first-off (ap not (first_is k ∙ le-ltb k (line + 1) (omega (arith, high)))) (sym (is k) ∙ off)
