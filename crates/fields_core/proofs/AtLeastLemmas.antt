-- Houses of one at least, by the cells of theirs that can be ones.
use Rattle.fields_core.proofs.Common.{AllByRecursion, AreIdle, Bool, Candidates, CountHouse, IsHouse, IsInside, IsTally, List, Tally, [], after_house, after_visits, and-true, and_parts, ap, arith, cases_Bool, cases_eq, cases_lt, common_steps, cond, count_by, count_by-le-length, eqb, eqb-true, false, false_from_ne_true, fun_ext, has_place, has_place-at, inl, inr, is_empty, le-ltb, length, ltb, ne_eqb, not, one_at_least, or_cases, or_left, or_right, refl, strikes_of, suc, sym, true, true≢false, without_zeros, zero, ℕ, ◌&&◌, ◌<◌, ◌||◌, ◌∙◌, ◌∷◌, ◌≡◌, ◌≢◌, ◌≤◌, ◌⊎◌}
use Rattle.fields_core.proofs.VisitLemmas.{IsBinaryAlive, after-inside, others-stay, visits-inside}
use Rattle.fields_core.proofs.IdleLemmas.{KeepsIdle, any_has, full-between, idle-first, idle-rest}
use Rattle.fields_core.proofs.PlaceLists.{count-cons, count-none, count-some, count-two, num, num-most}
use Rattle.fields_core.proofs.HouseLemmas.{counts-same}
use Rattle.fields_core.proofs.CountKept.{after-at, off-scope, has-value}

-- ---- a visit
-- where a place does not pass, not all do
count-less : (test : ℕ → Bool) (xs : List ℕ) (d : ℕ) → has_place xs d ≡ true → test d ≡ false → count_by test xs < length xs
unfolding has_place
count-less test [] d on off = absurd (true≢false (sym on))
count-less test (x ∷ xs) d on off = elim (or_cases (eqb x d) (has_place xs d) on) [
  | inl here ↦ omega (arith, count-cons test x xs, count_by-le-length test xs, ap num (ap test (eqb-true x d here) ∙ off))
  | inr more ↦ omega (arith, count-cons test x xs, num-most (test x), count-less test xs d more off)
]

-- the cells of a house each have a value
abbrev pub AreCellsFull : List ℕ → Candidates → Type 0
AreCellsFull places K = (c : ℕ) → has_place places c ≡ true → (K c 0 ≡ true) ⊎ (K c 1 ≡ true)

-- some cell can be a one, or there are none
abbrev pub IsHouseFilled : List ℕ → Candidates → Type 0
IsHouseFilled places K = (length places ≡ 0) ⊎ (1 ≤ count_by (λ d. K d 1) places)

-- the cell that loses 0 by a visit
abbrev pub is_lone : List ℕ → Candidates → ℕ → Bool
is_lone places K c = K c 1 && (has_place places c && eqb (count_by (λ d. K d 1) places) 1)

stays-is : (must may long v : ℕ) (none one : Bool) → v < 2 → 1 ≤ may → 1 ≤ long → must ≤ long → (none ≡ true → must < long) → cond (eqb v 0) none one ≡ true
    → (not (ltb 0 0 || (ltb long 1 || (ltb may 1 || ltb long must))) && not ((none && one) && (((eqb v 1) && (eqb must long)) || ((eqb v 0) && (eqb may 1)))))
    ≡ not (eqb v 0 && (one && eqb may 1))
stays-is must may long zero none one low some pos few less on = rw (le-ltb _ _ pos, le-ltb _ _ some, le-ltb _ _ few) (grind (arith, common_steps, cases_Bool none, cases_Bool one, cases_Bool (eqb may 1)))
stays-is must may long (suc zero) none one low some pos few less on = grind (arith, common_steps, le-ltb, cases_Bool, eqb-true)
stays-is must may long (suc (suc v)) none one low some pos few less on = absurd (omega arith)

pub least-after : {cells : ℕ} {places : List ℕ} (K : Candidates) → IsHouse cells (one_at_least places) → AreCellsFull places K → IsHouseFilled places K → (c : ℕ) {v : ℕ} → v < 2 → K c v ≡ true
    → after_house (one_at_least places) K c v ≡ not (eqb v 0 && is_lone places K c)
unfolding after_house
least-after {cells} {places} K is full filled c {v} low on = elim (cases_Bool (has_place places c)) [
  | inr out ↦ rw (on, off-scope (one_at_least places) K c v out, out) (grind (arith, common_steps, cases_Bool))
  | inl there ↦
      let w = has_place-at places c there in
      let tally : Tally = record { must = count_by (λ d. not (K d 0)) places; may = count_by (λ d. K d 1) places; empty = 0 } in
      let counted : IsTally K places tally = record { must_is = refl; may_is = refl; empty_is = sym (count-none (is_empty K) places (λ d at. has-value K d (full d at))) } in
      let left = rw w.2 at (after-at cells (one_at_least places) K tally is counted w.1 low) in
      left ∙ rw (on, there) (stays-is _ _ _ v (K c 0) (K c 1) low (some w.1 filled) (omega (arith, w.1)) (count_by-le-length _ places) (λ e. count-less _ places c there (rw e refl)) (by v low on))
]
  where
    some : {k : ℕ} → k < length places → IsHouseFilled places K → 1 ≤ count_by (λ d. K d 1) places
    some lt (inl none) = absurd (omega arith)
    some lt (inr one) = one

    by : (u : ℕ) → u < 2 → K c u ≡ true → cond (eqb u 0) (K c 0) (K c 1) ≡ true
    by zero less is = is
    by (suc zero) less is = is
    by (suc (suc u)) less is = absurd (omega arith)

-- the board has the values 0 and 1 alone
abbrev pub IsOfTwo : Candidates → Type 0
IsOfTwo K = (c v : ℕ) → K c v ≡ true → v < 2

pub least-board : {cells : ℕ} {places : List ℕ} {K : Candidates} → IsHouse cells (one_at_least places) → AreCellsFull places K → IsHouseFilled places K → IsOfTwo K
    → after_house (one_at_least places) K ≡ without_zeros (is_lone places K) K
unfolding after_house without_zeros
least-board {cells} {places} {K} is full filled two = fun_ext λ c. fun_ext λ v. elim (cases_Bool (K c v)) [
  | inr off ↦ rw off refl
  | inl on ↦ least-after K is full filled c (two c v on) on ∙ rw on refl
]

-- a visit of a house whose cells can be no ones leaves no value in them
pub least-broken : {cells : ℕ} (places : List ℕ) (K : Candidates) → IsHouse cells (one_at_least places) → count_by (λ d. K d 1) places ≡ 0 → (c : ℕ) {v : ℕ} → has_place places c ≡ true → v < 2
    → after_house (one_at_least places) K c v ≡ false
least-broken {cells} places K is none c {v} there low =
    let w = has_place-at places c there in
    let tally : Tally = record { must = count_by (λ d. not (K d 0)) places; may = count_by (λ d. K d 1) places; empty = count_by (is_empty K) places } in
    let counted : IsTally K places tally = record { must_is = refl; may_is = refl; empty_is = refl } in
    (rw w.2 at (after-at cells (one_at_least places) K tally is counted w.1 low)) ∙ rw none (by (K c v) (ltb 0 tally.empty) (ltb (length places) 1) _)
  where
    by : (a b d f : Bool) → (a && (not (b || (d || true)) && f)) ≡ false
    by a b d f = grind (arith, common_steps, cases_Bool a, cases_Bool b, cases_Bool d)

-- ---- what is idle
module _ {cells : ℕ} {places : List ℕ} (K : Candidates) (is : IsHouse cells (one_at_least places)) (full : IsBinaryAlive cells K) where
  places-full : AreCellsFull places K
  places-full c there = full.some c (is.within c there)

  -- ---- two cells that can be ones: the house is idle
  module _ (d e : ℕ) (ne : d ≢ e) (in_d : has_place places d ≡ true) (in_e : has_place places e ≡ true) (on_d : K d 1 ≡ true) (on_e : K e 1 ≡ true) where
    several : 1 < count_by (λ c. K c 1) places
    several = count-two (λ c. K c 1) places d e in_d in_e on_d on_e ne

    none-lone : (c : ℕ) → is_lone places K c ≡ false
    none-lone c = rw (ne_eqb (count_by (λ d. K d 1) places) 1 (λ e. absurd (omega (arith, several)))) (grind (arith, common_steps, cases_Bool (K c 1), cases_Bool (has_place places c)))

    several-idle : (c v : ℕ) → K c v ≡ true → strikes_of (one_at_least places) K c v ≡ false
    unfolding after_house
    several-idle c v on =
        let by : (z s : Bool) → (true && not s) ≡ not (z && false) → s ≡ false = λ z s e. grind (arith, common_steps, cases_Bool z, cases_Bool s) in
        let left = least-after K is places-full (inr (omega (arith, several))) c (full.low c v on) on in
        by (eqb v 0) _ ((rw on at left) ∙ rw (none-lone c) refl)

    pub several-stay : after_house (one_at_least places) K ≡ K
    unfolding after_house
    several-stay = grind (arith, common_steps, cases_Bool, several-idle)

  -- ---- a cell that must be a one: the house is idle
  module _ (d : ℕ) (in_d : has_place places d ≡ true) (on_d : K d 1 ≡ true) (must : K d 0 ≡ false) where
    never-lone : {c : ℕ} → c ≢ d → is_lone places K c ≡ false
    never-lone {c} ne = grind (arith, common_steps, false_from_ne_true, and_parts, eqb-true, several)

    pub must-stay : after_house (one_at_least places) K ≡ K
    unfolding without_zeros
    must-stay = least-board is places-full (inr (count-some (λ c. K c 1) places d in_d on_d)) full.low
        ∙ fun_ext λ c. fun_ext λ v. by c v (cases_eq c d) (cases_eq v 0)
      where
        by : (c v : ℕ) → (c ≡ d) ⊎ (c ≢ d) → (v ≡ 0) ⊎ (v ≢ 0) → (K c v && not (eqb v 0 && is_lone places K c)) ≡ K c v
        by c v (inl e) (inl z) = rw (e, z, must) refl
        by c v (inl e) (inr nz) = rw (ne_eqb _ _ nz) (and-true (K c v))
        by c v (inr ne) z = rw (never-lone ne) (grind (arith, common_steps, cases_Bool (K c v), cases_Bool (eqb v 0)))

  -- either of these
  pub safe-stay : (d e : ℕ) → has_place places d ≡ true → has_place places e ≡ true → K d 1 ≡ true → K e 1 ≡ true → (d ≢ e) ⊎ (K d 0 ≡ false)
      → after_house (one_at_least places) K ≡ K
  safe-stay d e in_d in_e on_d on_e (inl ne) = several-stay d e ne in_d in_e on_d on_e
  safe-stay d e in_d in_e on_d on_e (inr must) = must-stay d in_d on_d must

  -- ---- some cell that can be a one: no cell loses 1
  pub ones-stay : 1 ≤ count_by (λ c. K c 1) places → (c : ℕ) → after_house (one_at_least places) K c 1 ≡ K c 1
  unfolding without_zeros
  ones-stay some c = ap (λ (L : Candidates). L c 1) (least-board is places-full (inr some) full.low) ∙ and-true (K c 1)

  pub ones-left : IsBinaryAlive cells (after_house (one_at_least places) K) → (c : ℕ) → after_house (one_at_least places) K c 1 ≡ K c 1
  ones-left after c = elim (cases_lt 0 (count_by (λ c. K c 1) places)) [
    | inl some ↦ ones-stay (omega arith) c
    | inr few ↦ others-stay (one_at_least places) K c 1 (false_from_ne_true _ (λ there.
        let gone : (v : ℕ) → v < 2 → after_house (one_at_least places) K c v ≡ false = λ v low. least-broken places K is (omega arith) c there low in
        elim (after.some c (is.within c there)) [
          | inl on ↦ true≢false (sym on ∙ gone 0 (omega arith))
          | inr on ↦ true≢false (sym on ∙ gone 1 (omega arith))
        ]))
  ]

  -- none: the house is idle only if it has no cell
  never-idle : after_house (one_at_least places) K ≡ K → count_by (λ c. K c 1) places ≡ 0 → (c : ℕ) → has_place places c ≡ false
  never-idle idle none c = false_from_ne_true _ (λ there.
      let gone : (v : ℕ) → v < 2 → K c v ≡ false = λ v low. ap (λ (L : Candidates). L c v) (sym idle) ∙ least-broken places K is none c there low in
      by (gone 0 (omega arith)) (gone 1 (omega arith)) (places-full c there))
    where
      by : {c : ℕ} → K c 0 ≡ false → K c 1 ≡ false → (K c 0 ≡ true) ⊎ (K c 1 ≡ true) → ⊥
      by a b (inl on) = true≢false (sym on ∙ a)
      by a b (inr on) = true≢false (sym on ∙ b)

-- ---- an idle house stays idle where its cells lose 0 alone
module _ {cells : ℕ} {places : List ℕ} (K L : Candidates) (is : IsHouse cells (one_at_least places)) (full : IsBinaryAlive cells K) (still : IsBinaryAlive cells L)
    (inside : IsInside L K) (same : (c : ℕ) → has_place places c ≡ true → L c 1 ≡ K c 1) where
  counts : count_by (λ c. L c 1) places ≡ count_by (λ c. K c 1) places
  counts = counts-same _ _ places same

  pub idle-kept : after_house (one_at_least places) K ≡ K → after_house (one_at_least places) L ≡ L
  unfolding without_zeros
  idle-kept idle = elim (cases_lt 0 (count_by (λ c. K c 1) places)) [
    | inl some ↦
        let before = sym (least-board is (places-full K is full) (inr some) full.low) ∙ idle in
        least-board is (places-full L is still) (inr (omega (arith, counts))) still.low
        ∙ fun_ext λ c. fun_ext λ v. rw counts (by c v (cases_Bool (has_place places c)) (ap (λ (M : Candidates). M c v) before))
    | inr few ↦ fun_ext λ c. fun_ext λ v. others-stay (one_at_least places) L c v (never-idle K is full idle (omega arith) c)
  ]
    where
      by : (c v : ℕ) → (has_place places c ≡ true) ⊎ (has_place places c ≡ false) → (K c v && not (eqb v 0 && is_lone places K c)) ≡ K c v
          → (L c v && not (eqb v 0 && (L c 1 && (has_place places c && eqb (count_by (λ d. K d 1) places) 1)))) ≡ L c v
      by c v (inl there) stays = rw (same c there) (grind (arith, common_steps, cases_Bool (L c v), cases_Bool (K c v), cases_Bool (eqb v 0), cases_Bool (is_lone places K c)))
      by c v (inr out) stays = rw out (grind (arith, common_steps, cases_Bool (L c v), cases_Bool (eqb v 0), cases_Bool (L c 1)))

-- ---- lists of such houses
pub record IsAll (cells : ℕ) (house : CountHouse) : Type 0 where
  pub is : IsHouse cells (one_at_least house.places)
  pub same : house ≡ one_at_least house.places

pub alls-kept : (cells : ℕ) (houses : List CountHouse) (K L : Candidates) → AllByRecursion (IsAll cells) houses
    → IsBinaryAlive cells K → IsBinaryAlive cells L → IsInside L K → ((c : ℕ) → any_has houses c ≡ true → L c 1 ≡ K c 1)
    → AreIdle houses K → AreIdle houses L
unfolding after_visits any_has
alls-kept cells [] K L each full_K full_L inside ones idle = refl
alls-kept cells (house ∷ houses) K L (is, each) full_K full_L inside ones idle = grind (arith, common_steps, idle-first, idle-kept, or_left, or_right, idle-rest, alls-kept cells houses K L each full_K full_L inside (λ c there. ones c (or_right _ _ there)))

-- visits that leave each cell a value take no 1
pub alls-ones : (cells : ℕ) (houses : List CountHouse) (K : Candidates) → AllByRecursion (IsAll cells) houses → IsBinaryAlive cells K
    → IsBinaryAlive cells (after_visits houses K) → (c : ℕ) → after_visits houses K c 1 ≡ K c 1
unfolding after_visits
alls-ones cells [] K each full after c = refl
alls-ones cells (house ∷ houses) K (is, each) full after c =
    let next = full-between full after (after-inside house K) (visits-inside houses (after_house house K)) in
    let first : (c : ℕ) → after_house house K c 1 ≡ K c 1 = rw (← is.same) at (ones-left K is.is full (rw is.same at next)) in
    alls-ones cells houses (after_house house K) each next after c ∙ first c

-- so others stay idle
pub all-keeps : (cells : ℕ) (visited house : CountHouse) → IsAll cells visited → IsAll cells house → KeepsIdle cells visited house
unfolding after_visits
all-keeps cells visited house is other K full still idle =
    rw other.same (idle-kept K (after_house visited K) other.is full still (after-inside visited K)
    (λ c _. alls-ones cells (visited ∷ []) K (is, tt) full still c) (rw other.same at idle))
