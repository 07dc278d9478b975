-- Closings by a queue: what is closed, what changes, and which houses wait.
use Rattle.engine_core.proofs.Common.{AreWoken, Bool, Candidates, IsBitsOf, IsBoardOf, IsChange, IsClosed, IsClosedAround, IsClosedBut, IsIdle, IsInside, IsInsideAt, IsLawful, IsNext, IsRested, IsWithin, IsWoken, Layout, List, None, Option, RuleSystem, SameShape, Some, [], add-one, after, and_from, and_left, and_parts, and_right, any_below, any_below-here, any_below-none, any_below-some, ap, arith, but, called_for, calls, cases_Bool, cases_eq, cases_lt, cells_of, common_steps, count_below, count_below-any, count_below-bound, count_below-few, count_below-kept, count_below-le, count_below-lt, count_below-none, count_below-pos, counts_of, eq-eqb, eqb, eqb-true, false, false_from_ne_true, fun_ext, has, has_bit, has_place, has_place-at, has_place-here, inl, inr, is_dead, is_dead-each, is_dead-here, is_dead-inside, is_dead-not, is_dead_in, is_some, le-ltb, left_by, length, lt-ltb, ltb, mul-le-mul_right, ne_eqb, not, not-true, not_from_false, not_from_true, only, only-here, only-inside, only-other, or_cases, or_left, or_right, pow_below, power-bits, refl, set, share, slice_index, sum_below-add, sum_below-le, sym, take, take-suc-set, true, true≢false, visits_left, woken, ℕ, ◌&&◌, ◌*◌, ◌++◌, ◌+◌, ◌-◌, ◌<◌, ◌^◌, ◌||◌, ◌∙◌, ◌∷◌, ◌≡◌, ◌≤◌, or-false}
use Rattle.engine_core.proofs.ClosingLemmas.{after_inside}
use Rattle.engine_core.proofs.SetLemmas.{bits-empty, counts-differ, counts-same}
pub use Rattle.engine_core.specs.PositionLaws.{within_of}

-- the cells of a house are cells of the board
pub scope-in : {p : RuleSystem} (laws : IsLawful p) {h : ℕ} (k : ℕ) → h < p.houses → k < length (p.scope h) → slice_index (p.scope h) k < p.cells
scope-in {p} laws {h} k lt lk = laws.scope_within h _ lt (has_place-here (p.scope h) k lk)

-- ---- what a visit leaves in the cells of other houses
-- a cell outside the house is left alone
pub after-outside : {p : RuleSystem} (laws : IsLawful p) {h : ℕ} (K : Candidates) (c v : ℕ)
    → h < p.houses → has_place (p.scope h) c ≡ false → K c v ≡ true → after p h K c v ≡ true
unfolding after
after-outside laws K c v lt out on = grind (arith, common_steps, and_from, false_from_ne_true, not_from_false, true≢false)

-- a house that has no cell with another number of values than before strikes what it struck before
still_rested : (p : RuleSystem) (laws : IsLawful p) (h j : ℕ) (K : Candidates) → h < p.houses → j < p.houses → IsWithin p.cells p.values K
    → called_for p h K (after p h K) j ≡ false → IsInsideAt (p.scope j) K (after p h K)
unfolding counts_of
still_rested p laws h j K lth ltj within quiet = λ c v member on.
    let unchanged = any_below-none _ (length (p.scope h)) quiet in
    let kept = count_below-kept (after p h K c) (K c) p.values v (λ u _. after_inside p h K c u) in
    grind (arith, common_steps, after-outside laws K c v lth, has_place-at (p.scope h) c, within c v on)

-- the waiting houses after a visit
not_struck : (p : RuleSystem) (h : ℕ) (K : Candidates) (c v : ℕ) → after p h K c v ≡ true → p.strikes h K c v ≡ false
unfolding after
not_struck p h K c v on = not-true (p.strikes h K c v) (and_parts (K c v) _ on).1

pub rested_after : (p : RuleSystem) (laws : IsLawful p) (h : ℕ) (K : Candidates) (waits : ℕ → Bool)
    → h < p.houses → IsWithin p.cells p.values K → IsRested p K waits
    → IsRested p (after p h K) (woken p h (counts_of p h K) (after p h K) (but waits h))
unfolding woken but
rested_after p laws h K waits lth within rested = λ j c v ltj asleep on.
    let settles = λ (e : p.visits_settle ≡ true) (lt : v < p.values). laws.settles e h K c v lth lt on in
    let still = λ (quiet : called_for p h K (after p h K) j ≡ false).
    laws.strikes_inside j K (after p h K) ltj (still_rested p laws h j K lth ltj within quiet) c v in
    grind (arith, common_steps, eqb-true, not_struck p h K c v on, within c v, after_inside p h K c v on, rested j c v ltj, settles, still)

-- the houses that a closing begins with: at the start those that strike something, and else those that have the place
pub rested_start : (p : RuleSystem) (K : Candidates) {waits : ℕ → Bool} → ((j : ℕ) → j < p.houses → waits j ≡ false → IsIdle p j p.start)
    → K ≡ p.start → IsRested p K waits
rested_start p K idle e = rw e (λ h c v lt asleep on. idle h lt asleep c v on)

-- of a board that was closed before the cell lost values, the houses without the cell strike nothing
closed_around : {p : RuleSystem} (laws : IsLawful p) {K : Candidates} {place : ℕ} → IsClosedAround p K place → (h c v : ℕ) → h < p.houses
    → has_place (p.scope h) place ≡ false → K c v ≡ true → p.strikes h K c v ≡ false
closed_around {p} laws {K} {place} around h c v lt out on =
    let L = around.before in
    let w = around.value in
    let still : only L place w c v ≡ true = sym (ap (λ (M : Candidates). M c v) around.is) ∙ on in
    rw (around.is) (grind (
      arith,
      common_steps,
      only-inside L place w c v still,
      around.closed h c v lt,
      laws.strikes_inside h L (only L place w) lt (λ d u member has. grind (arith, common_steps, only-other L place w d)) c v,
    ))

-- and each cell of it has a value still
pub alive_around : {p : RuleSystem} {K : Candidates} {place : ℕ} → IsClosedAround p K place → is_dead p.cells p.values K ≡ false
alive_around {p} {K} {place} around =
    let L = around.before in
    let v = around.value in
    rw (around.is) (is_dead-each p.cells p.values (only L place v) (λ c lt.
    grind (
      arith,
      common_steps,
      cases_eq c place,
      only-other L place v c,
      is_dead-not p.cells p.values L c around.alive lt,
      count_below-pos (only L place v place) p.values v (around.within place v around.had).1 (only-here L place v around.had),
    )))

pub alive_but : (p : RuleSystem) (K : Candidates) (from : Option ℕ) → is_some from ≡ true → IsClosedBut p K from → is_dead p.cells p.values K ≡ false
alive_but p K None some closed = absurd (true≢false (sym some))
alive_but p K (Some place) some closed = alive_around closed

pub rested_around : {p : RuleSystem} (laws : IsLawful p) {K : Candidates} (place : ℕ) {none waits : ℕ → Bool} → ((j : ℕ) → j < p.houses → none j ≡ false)
    → AreWoken p (λ j. has_place (p.scope j) place) none waits → IsClosedAround p K place → IsRested p K waits
rested_around laws place none woken around = λ h c v lt asleep on.
    closed_around laws around h c v lt (rw (none h lt) at (sym (woken.marks h lt) ∙ asleep)) on

-- a closed board whose cell loses all values but one
pub closed-but_only : (p : RuleSystem) (K : Candidates) (cell v : ℕ)
    → K cell v ≡ true → IsWithin p.cells p.values K → IsClosed p K
    → is_dead p.cells p.values K ≡ false → IsClosedBut p (only K cell v) (Some cell)
closed-but_only p K cell v on within closed alive = grind (arith, common_steps)

pub dead_of : (p : RuleSystem) {b : Layout} → IsBoardOf p b → is_dead (cells_of b) b.values (has b) ≡ is_dead p.cells p.values (has b)
dead_of p {b} of = grind (arith, common_steps, has)

-- where no house waits, the board is closed
pub closed_from_rested : (p : RuleSystem) (K : Candidates) (waits : ℕ → Bool) → ((h : ℕ) → h < p.houses → waits h ≡ false) → IsRested p K waits → IsClosed p K
closed_from_rested p K waits none rested = λ h c v lt on. rested h c v lt (none h lt) on

-- ---- a visit pays for the visits that it calls for
grow : (x y s : ℕ) → 1 ≤ y → y < x → (y - 1) * s + s ≤ (x - 1) * s
grow x y s pos lt = grind (arith, common_steps, mul-le-mul_right)

-- the cell fell, and the house has it and is sent for
sent : RuleSystem → ℕ → Candidates → ℕ → ℕ → Bool
sent p h K c j =
    (not (eqb (count_below (K c) p.values)
    (count_below (after p h K c) p.values)) && (has_place (p.scope h) c && has_place (p.scope j) c))
    && not (p.visits_settle && eqb j h)

-- so many houses are sent for by a cell
sent_few : (p : RuleSystem) (h : ℕ) (K : Candidates) (c : ℕ) → h < p.houses → count_below (sent p h K c) p.houses ≤ share p c
unfolding sent share
sent_few p h K c lth =
    let le = count_below-le (sent p h K c) (λ j. has_place (p.scope j) c) p.houses (λ j _ on. (sent_of j on).1) in
    let less = count_below-lt (sent p h K c) (λ j. has_place (p.scope j) c) p.houses h (λ j _ on. (sent_of j on).1) lth in
    let none = λ (out : has_place (p.scope h) c ≡ false). count_below-none (sent p h K c) p.houses (λ j _. grind (arith, common_steps)) in
    grind (arith, common_steps, eq-eqb h h refl)
  where
    sent_of : (j : ℕ) → sent p h K c j ≡ true → (has_place (p.scope h) c ≡ true) × (has_place (p.scope j) c ≡ true)
    sent_of j on = grind (arith, common_steps)

unsent : (p : RuleSystem) (h : ℕ) (K : Candidates) (c : ℕ)
    → count_below (K c) p.values ≡ count_below (after p h K c) p.values
    → count_below (sent p h K c) p.houses ≡ 0
unfolding sent
unsent p h K c same =
    count_below-none _ p.houses
    (λ j _. and_left _ _
    (and_left _ _
    (not_from_true _ (eq-eqb _ _ same))))

-- what a cell's houses cost is paid by the values that it lost
cell_pays : (p : RuleSystem) {h : ℕ} (K : Candidates) (c : ℕ) → h < p.houses → 0 < count_below (after p h K c) p.values
    → count_below (sent p h K c) p.houses + (count_below (after p h K c) p.values - 1) * share p c ≤ (count_below (K c) p.values - 1) * share p c
cell_pays p K c lth alive = grind (arith, common_steps, after_inside, cases_eq, count_below-le, grow, sent, sent_few, unsent)

-- who waits after the visit, waited or was sent for by a cell
woken_or_sent : (p : RuleSystem) (laws : IsLawful p) (h : ℕ) (K : Candidates) (waits : ℕ → Bool) (j : ℕ) → h < p.houses
    → woken p h (counts_of p h K) (after p h K) (but waits h) j ≡ true → (but waits h j || any_below (λ c. sent p h K c j) p.cells) ≡ true
unfolding woken sent counts_of
woken_or_sent p laws h K waits j lth on = elim (or_cases (but waits h j) _ on) [
  | inl waited ↦ or_left (but waits h j) _ waited
  | inr called ↦
      let w = any_below-some _ (length (p.scope h)) (and_parts _ (not (p.visits_settle && eqb j h)) called).0 in
      let member = has_place-here (p.scope h) w.0 w.1 in
      or_right (but waits h j) _ (any_below-here (λ c. sent p h K c j) p.cells (slice_index (p.scope h) w.0)
      (scope-in laws w.0 lth w.1) (grind (arith, common_steps)))
]

one_less : (waits : ℕ → Bool) (n h : ℕ) → h < n → waits h ≡ true → count_below (but waits h) n < count_below waits n
unfolding but
one_less waits n h lt waiting =
    count_below-lt _ waits n h (λ j _ on. (and_parts (waits j) _ on).0) lt (grind (arith, common_steps, eq-eqb h h refl)) waiting

pub visit_pays : (p : RuleSystem) (laws : IsLawful p) (h : ℕ) (K : Candidates) (waits : ℕ → Bool)
    → h < p.houses → waits h ≡ true → is_dead p.cells p.values (after p h K) ≡ false
    → visits_left p (after p h K) (woken p h (counts_of p h K) (after p h K) (but waits h)) + 1 ≤ visits_left p K waits
unfolding visits_left
visit_pays p laws h K waits lth waiting alive =
    let sending = λ (c : ℕ). count_below (sent p h K c) p.houses in
    let before = λ (c : ℕ). (count_below (K c) p.values - 1) * share p c in
    let later = λ (c : ℕ). (count_below (after p h K c) p.values - 1) * share p c in
    let some = count_below-le (woken p h (counts_of p h K) (after p h K) (but waits h)) (λ j. but waits h j || any_below (λ c. sent p h K c j) p.cells) p.houses
    (λ j _ on. woken_or_sent p laws h K waits j lth on) in
    let paid = sum_below-le (λ c. sending c + later c) before p.cells (λ c lt. cell_pays p K c lth (is_dead-not p.cells p.values (after p h K) c alive lt)) in
    let split = count_below-any (but waits h) (sent p h K) p.cells p.houses in
    omega (arith, some, paid, split, one_less waits p.houses h lth waiting, sum_below-add sending later p.cells)

-- at the start the bound is enough
pub visits_first : (p : RuleSystem) (laws : IsLawful p) (K : Candidates) (waits : ℕ → Bool) → p.by_queue ≡ true → visits_left p K waits ≤ p.bound
unfolding visits_left
visits_first p laws K waits queue = grind (arith, common_steps, count_below-bound, mul-le-mul_right, sum_below-le)

-- ---- one more cell of the house
pub any_below-more : (p : ℕ → Bool) (n : ℕ) → any_below p (n + 1) ≡ (any_below p n || p n)
unfolding any_below
any_below-more p n = rw add-one refl

pub unwoken : {x : Bool} → x ≡ (x || false)
unwoken {x} = sym (or-false x)

-- and whether it has no value
pub dead-first : (p : RuleSystem) (h : ℕ) (K : Candidates) → false ≡ any_below (λ k. eqb (counts_of p h K k) 0) 0
unfolding any_below
dead-first p h K = refl

pub dead-more : (p : RuleSystem) (h : ℕ) (K : Candidates) (k : ℕ) {place bits : ℕ} {d : Bool} → place ≡ slice_index (p.scope h) k
    → IsBitsOf (K place) p.values bits → d ≡ any_below (λ k. eqb (counts_of p h K k) 0) k
    → (d || eqb bits 0) ≡ any_below (λ k. eqb (counts_of p h K k) 0) (k + 1)
unfolding counts_of
dead-more p h K k at is e = grind (arith, common_steps, any_below-more, bits-empty is)

-- ---- one turn of the queue
visits_left-fewer : (p : RuleSystem) (K : Candidates) (waits waits' : ℕ → Bool)
    → ((j : ℕ) → j < p.houses → waits j ≡ true → waits' j ≡ true)
    → visits_left p K waits ≤ visits_left p K waits'
unfolding visits_left
visits_left-fewer p K waits waits' fewer = omega (arith, count_below-le waits waits' p.houses fewer)

pub visits_left-pos : (p : RuleSystem) (K : Candidates) (waits : ℕ → Bool) (h : ℕ) → h < p.houses → waits h ≡ true → 0 < visits_left p K waits
unfolding visits_left
visits_left-pos p K waits h lt on = omega (arith, count_below-pos waits p.houses h lt on)

pub turn_enough : (p : RuleSystem) (laws : IsLawful p) (h : ℕ) (K K' : Candidates)
    {waits waits' : ℕ → Bool} (visits : ℕ) → h < p.houses → waits h ≡ true → K' ≡ after p h K
    → IsWoken p h K K' waits waits' → visits_left p K waits + visits ≤ p.bound
    → is_dead p.cells p.values K' ≡ false → visits_left p K' waits' + (visits + 1) ≤ p.bound
turn_enough p laws h K K' {waits} {waits'} visits lth waiting e woke enough alive =
    let pays = visit_pays p laws h K waits lth waiting (rw e at alive) in
    let less = visits_left-fewer p K' waits' (woken p h (counts_of p h K) K' (but waits h)) (λ j lt on. sym (woke.marks j lt) ∙ on) in grind (arith, common_steps)

pub turn_rested : {p : RuleSystem} (laws : IsLawful p) {h : ℕ} {K K' : Candidates}
    {waits waits' : ℕ → Bool} → h < p.houses → IsWithin p.cells p.values K → K' ≡ after p h K
    → IsWoken p h K K' waits waits' → IsRested p K waits → IsRested p K' waits'
turn_rested laws lth within e woke rested = grind (arith, common_steps, cases_Bool, rested_after)

pub pushed : (t : List ℕ) {n : ℕ} (h : ℕ) → n < length t → take (n + 1) (set t n h) ≡ take n t ++ h ∷ []
pushed t {n} h lt = rw add-one (take-suc-set t n h lt)

pub IsBoardOf-same : {p : RuleSystem} {b b' : Layout} → IsBoardOf p b → SameShape b b' → IsBoardOf p b'
IsBoardOf-same of same = grind (arith, common_steps)

-- ---- a visit that empties a cell empties one of its own house
emptied-alive : (p : RuleSystem) (laws : IsLawful p) (h : ℕ) (K K' : Candidates) → h < p.houses → is_dead p.cells p.values K ≡ false → K' ≡ after p h K
    → is_dead p.cells p.values K' ≡ is_dead_in p h K'
unfolding counts_of
emptied-alive p laws h K K' lt alive e = elim (cases_Bool _) [
  | inl some ↦
      let w = any_below-some _ _ some in
      is_dead-here p.cells p.values K' _ (laws.scope_within h _ lt (has_place-here (p.scope h) w.0 w.1)) (eqb-true _ _ w.2) ∙ sym some
  | inr none ↦ is_dead-each p.cells p.values K' (λ c less.
      let same = λ (out : has_place (p.scope h) c ≡ false). count_below-le (K c) (K' c) p.values (λ v _ on. rw e (after-outside laws K c v lt out on)) in
      let still = any_below-none _ _ none in
      grind (arith, common_steps, cases_Bool (has_place (p.scope h) c), has_place-at (p.scope h) c, is_dead-not p.cells p.values K c alive less)) ∙ sym none
]

-- a board is dead after a visit where it was before, or where a cell of the house lost its last values
pub emptied-dead : (p : RuleSystem) (laws : IsLawful p) {h : ℕ} (K K' : Candidates) → h < p.houses → K' ≡ after p h K
    → is_dead p.cells p.values K' ≡ (is_dead p.cells p.values K || is_dead_in p h K')
emptied-dead p laws {h} K K' lt e = elim (cases_Bool (is_dead p.cells p.values K)) [
  | inl dead ↦ rw dead (is_dead-inside p.cells p.values K' K (rw e (after_inside p h K)) dead)
  | inr alive ↦ rw alive (emptied-alive p laws h K K' lt alive e)
]

-- where nothing was struck, no house is called for
pub woken-none : (p : RuleSystem) (h : ℕ) (K K' : Candidates) (waits : ℕ → Bool) (j : ℕ) → K' ≡ K → waits j ≡ woken p h (counts_of p h K) K' waits j
unfolding woken
woken-none p h K K' waits j same = grind (arith, common_steps, and_parts, any_below-some, cases_Bool, eq-eqb, not-true)

-- Boards that differ in one cell alone.

-- ---- a cell of which less is left
pub left-inside : (K : Candidates) (place bits : ℕ) → IsInside (left_by K place bits) K
unfolding left_by
left-inside K place bits = grind (arith, common_steps)

-- what `retain` says of it
pub left-is : (K : Candidates) {L : Candidates} (place bits : ℕ) → ((c v : ℕ) → L c v ≡ (K c v && not (eqb place c && not (has_bit bits v)))) → L ≡ left_by K place bits
unfolding left_by
left-is K place bits is = fun_ext λ c. fun_ext λ v. is c v

pub left-others : (K : Candidates) {place : ℕ} (bits c v : ℕ) → (c ≡ place → ⊥) → left_by K place bits c v ≡ K c v
unfolding left_by
left-others K bits c v ne = grind (arith, common_steps)

pub left-change : (p : RuleSystem) (b b' : Layout) {place before : ℕ} (left : ℕ)
    → IsBoardOf p b → place < p.cells → IsBitsOf (has b place) p.values before
    → IsBitsOf (left_by (has b) place left place) p.values left
    → has b' ≡ left_by (has b) place left
    → IsChange p.cells p.values (has b) (has b') place before left
left-change p b b' {place} left of lt was is e = rw e (record {
  place_in = lt;
  before_is = was;
  after_is = is;
  others = left-others (has b) {place = place} left;
  within = λ v on. (within_of p b of place v (left-inside (has b) place left place v on)).1;
})

-- ---- one value alone is left
pub left-only : (K : Candidates) (place value : ℕ) → left_by K place (2 ^ value) ≡ only K place value
unfolding left_by only
left-only K place value = grind (arith, common_steps, power-bits, cases_eq, eq-eqb, ne_eqb)

pub only-bits : (K : Candidates) (place : ℕ) {value n : ℕ} → K place value ≡ true → value < n → IsBitsOf (left_by K place (2 ^ value) place) n (2 ^ value)
unfolding left_by
only-bits K place on lt = grind (arith, common_steps, power-bits, cases_eq, eq-eqb, ne_eqb, pow_below)

pub bits-several : {set : ℕ → Bool} (value : ℕ) {n before : ℕ} → IsBitsOf set n before → 2 ≤ count_below set n → 2 ^ value ≡ before → ⊥
bits-several value was several e = grind (arith, common_steps, power-bits, count_below-few, eqb-true)

-- Which houses wait after others were called for.

-- where no house is called for, nothing changes
pub woken-by_none : {p : RuleSystem} {called waits : ℕ → Bool} → ((j : ℕ) → j < p.houses → called j ≡ false) → AreWoken p called waits waits
woken-by_none none = record { marks = λ j lt. rw (none j lt) unwoken }

pub woken-same : {p : RuleSystem} {called called' before now : ℕ → Bool} → ((j : ℕ) → j < p.houses → called j ≡ called' j) → AreWoken p called before now
    → AreWoken p called' before now
woken-same same a = record { marks = λ j lt. rw (same j lt) at (a.marks j lt) }

-- first some are called for, and then others
pub woken-more : {p : RuleSystem} {first more before now after : ℕ → Bool} → AreWoken p first before now → AreWoken p more now after
    → AreWoken p (λ j. first j || more j) before after
woken-more a b = record { marks = λ j lt. grind (arith, common_steps, a.marks j lt, b.marks j lt) }

-- ---- the cells of a house one after another
pub woken-first : {p : RuleSystem} (h : ℕ) (K K' : Candidates) {waits : ℕ → Bool}
    → AreWoken p (λ j. any_below (calls p h (counts_of p h K) K' j) 0) waits waits
unfolding any_below
woken-first h K K' = woken-by_none (λ j lt. refl)

-- a cell with another set calls for its houses
pub woken-then : (p : RuleSystem) (h : ℕ) (K K' : Candidates) (k : ℕ) {place set bits : ℕ} {before now after : ℕ → Bool}
    → place ≡ slice_index (p.scope h) k → IsBitsOf (K (slice_index (p.scope h) k)) p.values set → IsBitsOf (K' place) p.values bits
    → IsInside K' K → (bits ≡ set → ⊥)
    → AreWoken p (λ j. any_below (calls p h (counts_of p h K) K' j) k) before now → AreWoken p (λ j. has_place (p.scope j) place) now after
    → AreWoken p (λ j. any_below (calls p h (counts_of p h K) K' j) (k + 1)) before after
unfolding counts_of
woken-then p h K K' k at was is inside ne a b =
    let differ = counts-differ was (rw at at is) (λ v. inside _ v) ne in
    woken-same (λ j lt. grind (arith, common_steps, any_below-more, ne_eqb, not_from_false)) (woken-more a b)

-- one with the same set doesn't
pub woken-else : (p : RuleSystem) (h : ℕ) (K K' : Candidates) (k : ℕ) {place set bits : ℕ} {before now : ℕ → Bool}
    → place ≡ slice_index (p.scope h) k → IsBitsOf (K (slice_index (p.scope h) k)) p.values set → IsBitsOf (K' place) p.values bits
    → bits ≡ set → AreWoken p (λ j. any_below (calls p h (counts_of p h K) K' j) k) before now
    → AreWoken p (λ j. any_below (calls p h (counts_of p h K) K' j) (k + 1)) before now
unfolding counts_of
woken-else p h K K' k at was is e a =
    let same = counts-same p.values _ _ was (rw at at is) e in
    woken-same (λ j lt. grind (arith, common_steps, and_left, any_below-more, eq-eqb, not_from_true, unwoken)) a

-- ---- the marks after a visit: of the house, then those of houses that were called for, then its own where visits settle
pub woken-by : {p : RuleSystem} {h : ℕ} {K K' : Candidates} {waits cleared now left : ℕ → Bool} → ((j : ℕ) → cleared j ≡ but waits h j)
    → AreWoken p (called_for p h K K') cleared now → ((j : ℕ) → left j ≡ (now j && not (p.visits_settle && eqb j h))) → IsWoken p h K K' waits left
unfolding woken but
woken-by clears a settles = grind (arith, common_steps)

-- where nothing was struck, only the house's own mark goes
pub woken-unstruck : {p : RuleSystem} {h : ℕ} {K K' : Candidates} {waits left : ℕ → Bool} → K' ≡ K
    → ((j : ℕ) → left j ≡ but waits h j) → IsWoken p h K K' waits left
woken-unstruck same clears = grind (arith, common_steps, woken-none)

-- ---- the houses that pass a test, up to a number
pub before-first : {p : RuleSystem} (test : ℕ → Bool) {waits : ℕ → Bool} → AreWoken p (λ j. test j && ltb j 0) waits waits
before-first test = woken-by_none (λ j lt. and_right (test j) _ (le-ltb j 0 (omega arith)))

-- the next one is marked
pub before-marked : {p : RuleSystem} (test : ℕ → Bool) {before now after : ℕ → Bool} (from n : ℕ)
    → IsNext test p.houses from (Some n) → ((j : ℕ) → after j ≡ (now j || eqb j n))
    → AreWoken p (λ j. test j && ltb j from) before now → AreWoken p (λ j. test j && ltb j (n + 1)) before after
before-marked {p} test from n next marks a =
    woken-same (λ j lt. one (test j) j lt) (woken-more a (record { marks = λ j lt. marks j }))
  where
    one : (on : Bool) (j : ℕ) → j < p.houses → ((test j && ltb j from) || eqb j n) ≡ (test j && ltb j (n + 1))
    one on j lt = grind (arith, common_steps, and_from, and_left, and_right, cases_eq, cases_lt, eq-eqb, le-ltb, lt-ltb, ne_eqb, next.3 j)

-- and none is left
pub before-all : {p : RuleSystem} {test before now : ℕ → Bool} (from : ℕ)
    → IsNext test p.houses from None → AreWoken p (λ j. test j && ltb j from) before now → AreWoken p test before now
before-all from next a =
    woken-same (λ j lt. grind (arith, common_steps, and_from, and_left, cases_lt, lt-ltb, next j)) a
