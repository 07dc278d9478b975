-- Which numbers of ones the fillings of a house have, and what a visit leaves of it.
use Rattle.fields_core.proofs.Common.{AreDifferent, Bool, Candidates, CountHouse, Fills, Fills-cons, Fills-tail, IsHouse, IsShown, IsTally, IsWithin, Layout, List, Tally, [], after_house, and-true, and_from, and_parts, ap, arith, bounds_of, cases_Bool, cases_eq, cases_lt, common_steps, cond, count_by, counts_between, distinct-from, eq-eqb, eqb, false, false_from_ne_true, fun_ext, get_or, has_bit, has_place, has_place-at, has_place-here, inl, inr, is_empty, is_open, le-leb, le-ltb, leb-true, length, length-sets_at, ltb-false, max, ne_eqb, nonzeros, not, not-true, not_taken, or_parts, refl, sets_at, sets_at-small, sets_at-value, shown_from_test, slice_index, value_stays, strikes_at-in_scope, strikes_at-place, strikes_by_fillings, strikes_of, suc, sym, take, taken-here, taken-other, test_from_shown, true, true≢false, zero, ℕ, ◌&&◌, ◌*◌, ◌+◌, ◌-◌, ◌<◌, ◌||◌, ◌∙◌, ◌∷◌, ◌≡◌, ◌≤◌, ◌⊎◌}
use Rattle.fields_core.proofs.PlaceLists.{count-at, count-cons, count-none, count-some, num, num-most}
use Rattle.fields_core.proofs.CellLemmas.{same-truth}
use Rattle.grid_core.specs.Board.{cells_of, has}
use Rattle.grid_core.proofs.BoardLemmas.{has-within}

-- Which numbers of ones the fillings of a house's cells have, and what that says of a value of a cell.

-- how many cells must hold a one, and how many may
abbrev pub must_of : Candidates → List ℕ → ℕ
must_of K places = count_by (λ c. not (K c 0)) places

abbrev pub may_of : Candidates → List ℕ → ℕ
may_of K places = count_by (λ c. K c 1) places

-- each cell has a value
abbrev pub HaveValues : Candidates → List ℕ → Type 0
HaveValues K places = (k : ℕ) → k < length places → (K (slice_index places k) 0 ≡ true) ⊎ (K (slice_index places k) 1 ≡ true)

yes : {b : Bool} → b ≡ true → num b ≡ 1
yes e = rw e refl

no : {b : Bool} → b ≡ true → num (not b) ≡ 0
no e = rw e refl

-- a filling has one of the values of each cell
pub filled-at : (K : Candidates) (places : List ℕ) {f : List ℕ} → Fills (sets_at 2 places K) f
    → {k : ℕ} → k < length places → (get_or f k 0 < 2)
    × (K (slice_index places k) (get_or f k 0) ≡ true)
filled-at K places p lt = grind (arith, common_steps, length-sets_at, sets_at-small, get_or, sets_at-value)

filled-from : (K : Candidates) (places f : List ℕ) → length f ≡ length places → ((k : ℕ) → k < length places → (get_or f k 0 < 2)
    × (K (slice_index places k) (get_or f k 0) ≡ true)) → Fills (sets_at 2 places K) f
filled-from K places f long each = grind (arith, common_steps, length-sets_at, sets_at-value, get_or)

-- ---- how many ones
ones-bounds : (K : Candidates) (places f : List ℕ) → Fills (sets_at 2 places K) f → (must_of K places ≤ nonzeros f) × (nonzeros f ≤ may_of K places)
unfolding sets_at
ones-bounds K [] [] p = (omega arith, omega arith)
ones-bounds K [] (v ∷ f) p = absurd (omega (arith, p.len))
ones-bounds K (x ∷ xs) [] p = absurd (omega (arith, p.len))
ones-bounds K (x ∷ xs) (v ∷ f) p =
    by v (filled-at K (x ∷ xs) p {k = 0} (omega arith))
    (ones-bounds K xs f (Fills-tail _ _ v f p))
    (count-cons _ x xs) (count-cons _ x xs)
  where
    by : (u : ℕ) → (u < 2) × (K x u ≡ true) → (must_of K xs ≤ nonzeros f) × (nonzeros f ≤ may_of K xs)
        → must_of K (x ∷ xs) ≡ num (not (K x 0)) + must_of K xs → may_of K (x ∷ xs) ≡ num (K x 1) + may_of K xs
        → (must_of K (x ∷ xs) ≤ nonzeros (u ∷ f)) × (nonzeros (u ∷ f) ≤ may_of K (x ∷ xs))
    by zero on r a b = let z = no on.1 in (omega (arith, r.0), omega (arith, r.1))
    by (suc zero) on r a b = let o = yes on.1 in let m = num-most (not (K x 0)) in (omega (arith, r.0), omega (arith, r.1))
    by (suc (suc u)) on r a b = absurd (omega (arith, on.0))

must-under : (K : Candidates) (places : List ℕ) → HaveValues K places → must_of K places ≤ may_of K places
must-under K [] full = omega arith
must-under K (x ∷ xs) full =
    by (full 0 (omega arith)) (must-under K xs (λ k lt. full (suc k) (omega arith))) (count-cons _ x xs) (count-cons _ x xs)
  where
    by : (K x 0 ≡ true) ⊎ (K x 1 ≡ true) → must_of K xs ≤ may_of K xs → must_of K (x ∷ xs) ≡ num (not (K x 0)) + must_of K xs
        → may_of K (x ∷ xs) ≡ num (K x 1) + may_of K xs
        → must_of K (x ∷ xs) ≤ may_of K (x ∷ xs)
    by (inl z) r a b = omega (arith, no z)
    by (inr o) r a b = omega (arith, yes o, num-most (not (K x 0)))

-- each number between the bounds is that of a filling
abbrev Reached : Candidates → List ℕ → ℕ → Type 0
Reached K places n = (f : List ℕ) × Fills (sets_at 2 places K) f × (nonzeros f ≡ n)

reached-more : (K : Candidates) (x : ℕ) (xs : List ℕ) {n : ℕ} → HaveValues K (x ∷ xs) → must_of K (x ∷ xs) ≤ n → n ≤ may_of K (x ∷ xs)
    → ((m : ℕ) → must_of K xs ≤ m → m ≤ may_of K xs → Reached K xs m) → Reached K (x ∷ xs) n
unfolding sets_at
reached-more K x xs {n} full low high rest = elim (cases_Bool (K x 0)) [
  | inl z ↦ elim (cases_lt (may_of K xs) n) [
    | inr within ↦
        let w = rest n (let a = must_cons in let e = no z in omega arith) within in
        (0 ∷ w.0, Fills-cons _ (sets_at 2 xs K) 0 w.0 (sets_at-value 2 (x ∷ xs) K 0 0 (omega arith) (omega arith) ∙ z) w.1, w.2)
    | inl over ↦ elim (cases_Bool (K x 1)) [
      | inl o ↦ one o (let u = must-under K xs (λ k lt. full (suc k) (omega arith)) in omega arith)
      | inr off ↦ absurd (let b = may_cons in let e : num (K x 1) ≡ 0 = rw off refl in omega arith)
    ]
  ]
  | inr off ↦ elim (full 0 (omega arith)) [
    | inl z ↦ absurd (true≢false (sym z ∙ off))
    | inr o ↦ one o (let a = must_cons in let e : num (not (K x 0)) ≡ 1 = rw off refl in omega arith)
  ]
]
  where
    must_cons : must_of K (x ∷ xs) ≡ num (not (K x 0)) + must_of K xs
    must_cons = count-cons (λ c. not (K c 0)) x xs

    may_cons : may_of K (x ∷ xs) ≡ num (K x 1) + may_of K xs
    may_cons = count-cons _ x xs

    one : K x 1 ≡ true → must_of K xs + 1 ≤ n → Reached K (x ∷ xs) n
    one o some =
        let w = rest (n - 1) (omega arith) (omega (arith, may_cons, yes o)) in
        (1 ∷ w.0, Fills-cons _ (sets_at 2 xs K) 1 w.0 (sets_at-value 2 (x ∷ xs) K 0 1 (omega arith) (omega arith) ∙ o) w.1, omega (arith, w.2))

ones-reached : (K : Candidates) (places : List ℕ) (n : ℕ) → HaveValues K places → must_of K places ≤ n → n ≤ may_of K places → Reached K places n
unfolding sets_at
ones-reached K [] n full low high = ([], record { len = refl; each = λ k lt. absurd (omega arith) }, omega arith)
ones-reached K (x ∷ xs) n full low high = reached-more K x xs full low high (λ m. ones-reached K xs m (λ k lt. full (suc k) (omega arith)))

-- ---- one value of a cell alone
module _ (K : Candidates) (places : List ℕ) (k v : ℕ) (different : AreDifferent places)
    (lt : k < length places) (low : v < 2) (on : K (slice_index places k) v ≡ true) where
  abbrev cell : ℕ
  cell = slice_index places k

  abbrev fixed : Candidates
  fixed c u = K c u && (not (eqb c cell) || eqb u v)

  others : {c : ℕ} (u : ℕ) → (c ≡ cell → ⊥) → fixed c u ≡ K c u
  others {c} u ne = rw (ne_eqb _ _ ne) (and-true (K c u))

  own : fixed cell v ≡ true
  own = rw (on, eq-eqb cell cell refl, eq-eqb v v refl) refl

  own-is : (u : ℕ) → u ≡ v → fixed cell u ≡ true
  own-is u e = ap (fixed cell) e ∙ own

  own-alone : {u : ℕ} → (u ≡ v → ⊥) → fixed cell u ≡ false
  own-alone ne = grind (arith, common_steps, eq-eqb, ne_eqb)

  must-fixed : must_of fixed places + num (not (K cell 0)) ≡ must_of K places + v
  must-fixed =
      let by : (u : ℕ) → u < 2 → u ≡ v → num (not (fixed cell 0)) ≡ u = λ u l e. grind (arith, common_steps, cases_eq u 0, own-is, own-alone) in
      count-at _ _ cell (λ c ne. ap not (others 0 ne)) places
      (distinct-from places different) (has_place-here places k lt)
      ∙ ap (λ n. must_of K places + n) (by v low refl)

  may-fixed : may_of fixed places + num (K cell 1) ≡ may_of K places + v
  may-fixed =
      let by : (u : ℕ) → u < 2 → u ≡ v → num (fixed cell 1) ≡ u = λ u l e. grind (arith, common_steps, cases_eq u 0, own-is, own-alone) in
      count-at _ _ cell (λ c ne. others 1 ne) places (distinct-from places different) (has_place-here places k lt)
      ∙ ap (λ n. may_of K places + n) (by v low refl)

  full-fixed : HaveValues K places → HaveValues fixed places
  full-fixed full j lj = grind (arith, common_steps, cases_eq, slice_index, own-is)

  -- a filling with the value at the cell fills the fixed board, and the other way round
  fixed-filled : (f : List ℕ) → Fills (sets_at 2 places K) f → get_or f k 0 ≡ v → Fills (sets_at 2 places fixed) f
  fixed-filled f p at = filled-from fixed places f (p.len ∙ length-sets_at 2 places K) (λ j lj. (
    (filled-at K places p lj).0,
    elim (cases_eq (slice_index places j) cell) [
      | inl here ↦ rw (different j k lj lt here, at) own
      | inr there ↦ others _ there ∙ (filled-at K places p lj).1
    ],
  ))

  filled-fixed : {f : List ℕ} → Fills (sets_at 2 places fixed) f → Fills (sets_at 2 places K) f × (get_or f k 0 ≡ v)
  filled-fixed {f} p = (
    filled-from K places f (p.len ∙ length-sets_at 2 places fixed)
        (λ j lj. let w = filled-at fixed places p lj in (w.0, (and_parts _ _ w.1).0)),
    elim (cases_eq _ v) [ inl is ↦ is | inr ne ↦ absurd (true≢false (sym (filled-at fixed places p lt).1 ∙ own-alone ne)) ],
  )

  pub shown-bounds : (least most : ℕ) → IsShown (counts_between least most) (sets_at 2 places K) k v
      → (least ≤ most) × (least + num (K cell 1) ≤ may_of K places + v) × (must_of K places + v ≤ most + num (not (K cell 0)))
  shown-bounds least most (f, s) = grind (arith, common_steps, ones-bounds, fixed-filled, and_parts, leb-true, must-fixed, may-fixed)

  pub bounds-shown : {least most : ℕ} → HaveValues K places → least ≤ most → least + num (K cell 1) ≤ may_of K places + v
      → must_of K places + v ≤ most + num (not (K cell 0))
      → IsShown (counts_between least most) (sets_at 2 places K) k v
  bounds-shown {least} {most} full order few many =
      let m = must-fixed in let n = may-fixed in
      let w =
      ones-reached fixed places (max least (must_of fixed places)) (full-fixed full)
      (omega arith) (omega (arith, must-under fixed places (full-fixed full))) in
      let o = filled-fixed w.1 in
      (w.0, record { fills = o.0; holds_true = and_from _ _ (le-leb least _ (omega (arith, w.2))) (le-leb _ most (omega (arith, w.2))); has_it = o.1 })

  -- a cell that has both values may hold a one and need not
  pub open-room : HaveValues K places → is_open K cell ≡ true → must_of K places < may_of K places
  open-room full both =
      let w = and_parts (K cell 0) (K cell 1) both in omega (arith, must-fixed, may-fixed, no w.0, yes w.1, must-under fixed places (full-fixed full))

-- What a visit of a count house leaves of its cells, by the tally of the house.

-- ---- a cell that is empty
not-empty : (K : Candidates) (c : ℕ) {v : ℕ} → v < 2 → K c v ≡ true → is_empty K c ≡ true → ⊥
not-empty K c {v} low on none = grind (arith, common_steps, cases_eq v 0, and_parts)

pub has-value : (K : Candidates) (c : ℕ) → (K c 0 ≡ true) ⊎ (K c 1 ≡ true) → is_empty K c ≡ false
has-value K c some = grind (arith, common_steps, cases_Bool)

by-value : (K : Candidates) (c : ℕ) {v : ℕ} → v < 2 → K c v ≡ true → cond (eqb v 0) (K c 0) (K c 1) ≡ true
by-value K c {v} low on = grind (arith, common_steps, cases_eq v 0, ne_eqb)

-- where there is room for a value that a cell has, the bounds leave room for all, and the value's is not reached
reached : {least most must may : ℕ} (v : ℕ) (zero_on one_on : Bool) → v < 2 → cond (eqb v 0) zero_on one_on ≡ true
    → least + num one_on ≤ may + v → must + v ≤ most + num (not zero_on)
    → (least ≤ may) × (must ≤ most) × (((zero_on && one_on) && (((eqb v 1) && (eqb must most)) || ((eqb v 0) && (eqb may least)))) ≡ false)
reached v zero_on one_on low on few many = grind (arith, common_steps, cases_eq, eq-eqb, ne_eqb)

-- nothing is struck outside a house
pub off-scope : (house : CountHouse) (K : Candidates) (c v : ℕ) → has_place house.places c ≡ false → strikes_of house K c v ≡ false
unfolding strikes_of
off-scope house K c v off = false_from_ne_true _ (λ on. true≢false (sym (strikes_at-in_scope 2 house.places _ K c v on) ∙ off))

module _ (cells : ℕ) (house : CountHouse) (K : Candidates) (t : Tally) (is : IsHouse cells house) (tally : IsTally K house.places t) where
  abbrev at : ℕ → ℕ
  at k = slice_index house.places k

  abbrev struck : ℕ → ℕ → Bool
  struck k v = strikes_by_fillings (counts_between house.least house.most) (sets_at 2 house.places K) k v

  full : t.empty ≡ 0 → HaveValues K house.places
  full none k lt = grind (arith, common_steps, cases_Bool, count-some, has_place-here)

  abbrev Shown : ℕ → ℕ → Type 0
  Shown k v = IsShown (counts_between house.least house.most) (sets_at 2 house.places K) k v

  -- a value that a filling has stays, and the other way round
  shown-stays : {k v : ℕ} → k < length house.places → v < 2 → K (at k) v ≡ true → Shown k v → value_stays t (bounds_of house) (is_open K (at k)) v ≡ true
  shown-stays {k} {v} lt low on (f, s) =
      let b = shown-bounds K house.places k v is.different lt low on house.least house.most (f, s) in
      let w = reached {least = house.least} {most = house.most} {must = t.must} {may = t.may} v (K (at k) 0) (K (at k) 1) low (by-value K (at k) low on) (omega (arith, b.1, tally.may_is)) (omega (arith, b.2, tally.must_is)) in
      let none : t.empty ≡ 0 = tally.empty_is ∙ count-none (is_empty K) house.places (λ c there. false_from_ne_true _ (λ gone.
      let j = has_place-at house.places c there in let u = filled-at K house.places s.fills j.1 in
      not-empty K (at j.0) u.0 u.1 (rw j.2 gone))) in
      rw (none, le-ltb _ _ b.0, le-ltb _ _ w.0, le-ltb _ _ w.1, w.2) refl

  stays-shown : {k v : ℕ} → k < length house.places → v < 2 → K (at k) v ≡ true → value_stays t (bounds_of house) (is_open K (at k)) v ≡ true → Shown k v
  stays-shown {k} {v} lt low on stay = grind (arith, common_steps, and_parts, or_parts, not-true, ltb-false, by-value, bounds-shown)

  pub stays-at : {k v : ℕ} → k < length house.places → v < 2 → (K (at k) v && not (struck k v)) ≡ (K (at k) v && value_stays t (bounds_of house) (is_open K (at k)) v)
  stays-at {k} {v} lt low = elim (cases_Bool (K (at k) v)) [
    | inl on ↦ ap (λ b. K (at k) v && b) (same-truth _ _
        (λ off. shown-stays lt low on (shown_from_test _ _ k v (not-true _ off)))
        (λ stay. ap not (test_from_shown _ _ k v (stays-shown lt low on stay))))
    | inr off ↦ rw off refl
  ]

  -- ---- the board after a visit
  pub after-at : {k v : ℕ} → k < length house.places → v < 2 → after_house house K (at k) v ≡ (K (at k) v && value_stays t (bounds_of house) (is_open K (at k)) v)
  unfolding after_house strikes_of
  after-at {k} {v} lt low = grind (arith, common_steps, strikes_at-place, stays-at)

  -- a house strikes nothing where both values of a cell with both would stay, if there may be such a cell
  pub idle-at : ((v : ℕ) → v < 2 → value_stays t (bounds_of house) (not (eqb t.must t.may)) v ≡ true) → (c v : ℕ) → v < 2 → K c v ≡ true
      → strikes_of house K c v ≡ false
  unfolding after_house
  idle-at all c v low on = elim (cases_Bool _) [
    | inr out ↦ off-scope house K c v out
    | inl here ↦ let w = has_place-at house.places c here in
        rw (sym w.2) (by (K (at w.0) v) _ (rw (sym w.2) at on) (after-at w.1 low ∙ ap (λ b. K (at w.0) v && b) (stays-all w.1)))
  ]
    where
      by : (a b : Bool) → a ≡ true → (a && not b) ≡ (a && true) → b ≡ false
      by a b e f = grind (arith, common_steps, cases_Bool a, cases_Bool b)

      apart : (k : ℕ) → k < length house.places → is_open K (at k) ≡ true → not (eqb t.must t.may) ≡ true
      apart k lt both =
          let none = ltb-false 0 t.empty (or_parts _ _ (not-true _ (and_parts _ _ (all v low)).0)).0 in
          let more = open-room K house.places k 0 is.different lt (omega arith) (and_parts (K (at k) 0) (K (at k) 1) both).0 (full (omega arith)) both in
          ap not (ne_eqb t.must t.may (λ e. absurd (omega (arith, more, tally.must_is, tally.may_is))))

      stays-all : {k : ℕ} → k < length house.places → value_stays t (bounds_of house) (is_open K (at k)) v ≡ true
      stays-all {k} lt = elim (cases_Bool (is_open K (at k))) [
        | inl both ↦ rw both (rw (apart k lt both) at (all v low))
        | inr shut ↦ rw shut (ap (λ b. b && true) (and_parts _ _ (all v low)).0)
      ]

-- ---- the bits of a set of 0, of 1, or of both
pub two-bits : (zero_in one_in : Bool) (v : ℕ) → v < 2 → has_bit (num zero_in + 2 * num one_in) v ≡ cond (eqb v 0) zero_in one_in
two-bits zero_in one_in zero low = grind (arith, common_steps, cases_Bool zero_in, cases_Bool one_in)
two-bits zero_in one_in (suc zero) low = grind (arith, common_steps, cases_Bool zero_in, cases_Bool one_in)
two-bits zero_in one_in (suc (suc v)) low = absurd (omega arith)

-- What a visit of a count house leaves.

-- ---- the cells of a house are in the board
pub cell-in : {cells : ℕ} {house : CountHouse} → IsHouse cells house → {k c : ℕ} → c ≡ slice_index house.places k → k < length house.places → c < cells
cell-in {house = house} is {k} here lt = rw here (is.within _ (has_place-here house.places k lt))

-- ---- the board without what the house strikes from its first n cells
pub record IsPartly (house : CountHouse) (n : ℕ) (K L : Candidates) : Type 0 where
  pub left : (c v : ℕ) → L c v ≡ (K c v && not (has_place (take n house.places) c && strikes_of house K c v))

pub partly-first : (house : CountHouse) (K : Candidates) → IsPartly house 0 K K
unfolding has_place
partly-first house K = record { left = λ c v. sym (and-true (K c v)) }

module _ {house : CountHouse} (b : Layout) (is : IsHouse (cells_of b) house) (two : b.values ≡ 2) where
  within : IsWithin (cells_of b) 2 (has b)
  within c v on = let w = has-within b c v on in (w.0, rw two at w.1)

  pub partly-all : {n : ℕ} {L : Candidates} → IsPartly house n (has b) L → length house.places ≤ n → L ≡ after_house house (has b)
  unfolding after_house
  partly-all {n} partly ge = grind (arith, common_steps, cases_Bool, off-scope)

  module _ {t : Tally} (tally : IsTally (has b) house.places t) where
    -- a house strikes nothing where all would be kept of a cell with both values, if there may be one
    pub idle-stays : {kept : ℕ} → ((v : ℕ) → v < 2 → has_bit kept v ≡ value_stays t (bounds_of house) (not (eqb t.must t.may)) v)
        → kept ≡ 3 → has b ≡ after_house house (has b)
    unfolding after_house
    idle-stays keeps all = fun_ext λ c. fun_ext λ v.
        grind (
          arith,
          common_steps,
          cases_Bool (has b c v),
          within c v,
          idle-at (cells_of b) house (has b) t is tally (λ u low. sym (keeps u low) ∙ rw all (two-bits true true u low ∙ always (eqb u 0))) c v,
        )
      where
        always : (a : Bool) → cond a true true ≡ true
        always a = grind (arith, common_steps, cases_Bool a)

    -- the next cell
    pub partly-more : {n place : ℕ} (kept : ℕ) {both : Bool} {L M : Candidates} → IsPartly house n (has b) L → n < length house.places
        → place ≡ slice_index house.places n → both ≡ is_open L place
        → ((v : ℕ) → v < 2 → has_bit kept v ≡ value_stays t (bounds_of house) both v)
        → ((c v : ℕ) → M c v ≡ (L c v && not (eqb place c && not (has_bit kept v)))) → IsPartly house (n + 1) (has b) M
    unfolding after_house
    partly-more {n} {place} kept {L = L} partly lt here whole keeps left = record {
      left = λ c v. left c v ∙ elim (cases_eq c place) [
        | inl e ↦ rw e (own v)
        | inr ne ↦ rw (ne_eqb place c (λ e. ne (sym e)), taken-other house.places lt (rw here at ne)) (and-true (L c v) ∙ partly.left c v)
      ];
    }
      where
        same : (v : ℕ) → L place v ≡ has b place v
        same v = grind (arith, common_steps, partly.left place v, not_taken house.places lt is.different place here, and-true)

        after : (v : ℕ) → v < 2 → after_house house (has b) place v ≡ (has b place v && value_stays t (bounds_of house) (is_open (has b) place) v)
        after v low = rw here (after-at (cells_of b) house (has b) t is tally lt low)

        own : (v : ℕ) → (L place v && not (eqb place place && not (has_bit kept v))) ≡ (has b place v && not (has_place (take (n + 1) house.places) place && strikes_of house (has b) place v))
        own v = grind (arith, common_steps, cases_Bool (has b place v), same, eq-eqb, taken-here house.places lt place here, within place v, keeps v, whole, after v)
