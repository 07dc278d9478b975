-- Cells beside each other.
use Rattle.fields_core.proofs.Common.{AreDistinct, Bool, Extent, None, Option, Some, ap, arith, cases_eq, common_steps, cond, cond-true, distinct-append, div-lt_iff_lt-mul, div-mul-add, eq-eqb, eqb-true, false, has_place, if_there, inl, inr, le-leb, leb, leb-true, length, length-append, lt-ltb, ltb, ltb-true, mod-lt, mul-le-mul_right, or_cases, or_left, place-append, place-back, place-front, refl, step, steps, suc, sym, true, true≢false, zero, ℕ, ◌%◌, ◌*◌, ◌+◌, ◌-◌, ◌/◌, ◌<◌, ◌∙◌, ◌≡◌, ◌≤◌, ◌⊎◌}

-- The cells beside a cell are different.
pub some-inj : {x y : ℕ} → Some x ≡ Some y → x ≡ y
some-inj {x} {y} e = cc

step-when : (b : Bool) (x d : ℕ) → cond b (Some x) None ≡ Some d → (b ≡ true) × (x ≡ d)
step-when true x d e = (refl, some-inj e)
step-when false x d e = absurd (cc)

pub step-up : (size : Extent) (c d : ℕ) → step size c 0 ≡ Some d → d + size.w ≡ c
unfolding step
step-up size c d e =
    let w = step-when (leb 1 (c / size.w)) (c - size.w) d e in let some = leb-true _ _ w.0 in omega (arith, w.1, mul-le-mul_right size.w some)

pub step-left : (size : Extent) (c d : ℕ) → step size c 1 ≡ Some d → (d + 1 ≡ c) × (1 ≤ c % size.w)
unfolding step
step-left size c d e = grind (arith, common_steps, step-when, leb-true)

pub step-right : (size : Extent) (c d : ℕ) → step size c 2 ≡ Some d → (d ≡ c + 1) × (c % size.w + 1 < size.w)
unfolding step
step-right size c d e = grind (arith, common_steps, step-when, ltb-true)

pub step-down : (size : Extent) (c d : ℕ) → step size c 3 ≡ Some d → (d ≡ c + size.w) × (c / size.w + 1 < size.h)
unfolding step
step-down size c d e = grind (arith, common_steps, step-when, ltb-true)

-- a later direction leads to a later cell
pub ascends : (size : Extent) (c d : ℕ) {e : ℕ} (k m : ℕ) → 0 < size.w → k < m → m < 4 → step size c k ≡ Some d → step size c m ≡ Some e → d < e
ascends size c d {e} zero (suc zero) pos lt less a b = let v = step-left size c e b in omega (arith, v.0, v.1, step-up size c d a, mod-lt c pos)
ascends size c d {e} zero (suc (suc zero)) pos lt less a b = let v = step-right size c e b in omega (arith, v.0, step-up size c d a)
ascends size c d {e} zero (suc (suc (suc zero))) pos lt less a b = let v = step-down size c e b in omega (arith, v.0, step-up size c d a)
ascends size c d {e} (suc zero) (suc (suc zero)) pos lt less a b = let u = step-left size c d a in let v = step-right size c e b in omega (arith, u.0, v.0)
ascends size c d {e} (suc zero) (suc (suc (suc zero))) pos lt less a b = let u = step-left size c d a in let v = step-down size c e b in omega (arith, u.0, v.0)
ascends size c d {e} (suc (suc zero)) (suc (suc (suc zero))) pos lt less a b = grind (arith, common_steps, step-right, step-down)
ascends size c d k m pos lt less a b = absurd (omega arith)

pub there-is : (o : Option ℕ) {d : ℕ} → has_place (if_there o) d ≡ true → o ≡ Some d
unfolding has_place
there-is None on = grind (arith, common_steps, true≢false)
there-is (Some x) on = grind (arith, common_steps, or_cases, eqb-true, true≢false)

pub steps-some : (size : Extent) (c n d : ℕ) → has_place (steps size c n) d ≡ true → (k : ℕ) × (k < n) × (step size c k ≡ Some d)
unfolding steps has_place
steps-some size c zero d on = absurd (true≢false (sym on))
steps-some size c (suc n) d on = elim (place-append (steps size c n) (if_there (step size c n)) d on) [
  | inl before ↦ let w = steps-some size c n d before in (w.0, omega (arith, w.1), w.2)
  | inr here ↦ (n, omega arith, there-is (step size c n) here)
]

there-distinct : (o : Option ℕ) → AreDistinct (if_there o)
unfolding has_place
there-distinct None = tt
there-distinct (Some x) = (refl, tt)

pub steps-distinct : (size : Extent) (c n : ℕ) → 0 < size.w → n ≤ 4 → AreDistinct (steps size c n)
unfolding steps
steps-distinct size c zero pos few = tt
steps-distinct size c (suc n) pos few =
    distinct-append (steps size c n) (if_there (step size c n))
    (steps-distinct size c n pos (omega arith)) (there-distinct (step size c n))
    (λ d a b. let w = steps-some size c n d a in let up = ascends size c d w.0 n pos w.1 (omega arith) w.2 (there-is (step size c n) b) in absurd (omega arith))

there-few : (o : Option ℕ) → length (if_there o) ≤ 1
there-few None = omega arith
there-few (Some x) = omega arith

pub steps-few : (size : Extent) (c n : ℕ) → length (steps size c n) ≤ n
unfolding steps
steps-few size c zero = grind (arith, common_steps)
steps-few size c (suc n) = grind (arith, common_steps, there-few, length-append, steps-few size c n)

-- Cells beside each other: each is beside the other, and they lie in the grid.

-- the row and the column of a cell
pub cell-parts : {w : ℕ} (q : ℕ) {r : ℕ} (d : ℕ) → r < w → d ≡ q * w + r → (d / w ≡ q) × (d % w ≡ r)
cell-parts q d lt e = grind (arith, common_steps, div-mul-add)

pub whole-cell : (w c : ℕ) → c ≡ c / w * w + c % w
whole-cell w c = omega arith

-- a cell one row further down, and one column further right
pub cell-below : {w : ℕ} (c : ℕ) → 0 < w → ((c + w) / w ≡ c / w + 1) × ((c + w) % w ≡ c % w)
cell-below {w} c pos = cell-parts (c / w + 1) (c + w) (mod-lt c pos) (omega (arith, whole-cell w c))

pub cell-after : {w : ℕ} (c : ℕ) → c % w + 1 < w → ((c + 1) / w ≡ c / w) × ((c + 1) % w ≡ c % w + 1)
cell-after {w} c lt = cell-parts (c / w) (c + 1) lt (omega (arith, whole-cell w c))

pub row-in : {w : ℕ} (h c : ℕ) → 0 < w → c < w * h → c / w < h
row-in h c pos lt = (div-lt_iff_lt-mul pos).1 (omega arith)

pub cell-in : {w : ℕ} (h : ℕ) {c : ℕ} → 0 < w → c / w < h → c < w * h
cell-in h pos lt = grind (arith, common_steps, mul-le-mul_right, mod-lt, whole-cell)

-- a step leads back by the other direction
back : (size : Extent) (t c k : ℕ) → 0 < size.w → t < size.w * size.h → c < size.w * size.h → k < 4
    → step size t k ≡ Some c → (m : ℕ) × (m < 4) × (step size c m ≡ Some t)
unfolding step
back size t c zero pos lt lc less e =
    let u = step-up size t c e in let v = cell-below c pos in
    let r : c / size.w + 1 < size.h = let s = row-in size.h t pos lt in
    let q : t / size.w ≡ c / size.w + 1 = ap (λ n. n / size.w) (sym u) ∙ v.0 in omega arith in
    (3, omega arith, cond-true (ltb (c / size.w + 1) size.h) _ _ (lt-ltb _ _ r) ∙ ap Some u)
back size t c (suc zero) pos lt lc less e =
    let u = step-left size t c e in let f : t ≡ c + 1 = omega (arith, u.0) in
    let whole = whole-cell size.w t in let r = mod-lt t pos in
    let v = cell-parts {w = size.w} (t / size.w) {r = (t % size.w - 1)} c (omega arith) (omega (arith, u.1)) in
    let q : c % size.w + 1 < size.w = omega (arith, v.1, u.1) in
    (2, omega arith, cond-true (ltb (c % size.w + 1) size.w) _ _ (lt-ltb _ _ q) ∙ ap Some (sym f))
back size t c (suc (suc zero)) pos lt lc less e =
    let u = step-right size t c e in let v = cell-after t u.1 in
    let q : 1 ≤ c % size.w = let a : c % size.w ≡ t % size.w + 1 = ap (λ n. n % size.w) u.0 ∙ v.1 in omega arith in
    (1, omega arith, cond-true (leb 1 (c % size.w)) _ _ (le-leb _ _ q) ∙ ap Some (omega (arith, u.0)))
back size t c (suc (suc (suc zero))) pos lt lc less e = grind (arith, common_steps, step-down, cell-below, cond-true, leb, le-leb)
back size t c (suc (suc (suc (suc k)))) pos lt lc less e = absurd (omega arith)

pub steps-has : (size : Extent) (c n k : ℕ) {d : ℕ} → k < n → step size c k ≡ Some d → has_place (steps size c n) d ≡ true
unfolding steps has_place
steps-has size c zero k lt e = absurd (omega arith)
steps-has size c (suc n) k {d} lt e = elim (cases_eq k n) [
  | inl same ↦ place-back (steps size c n) (if_there (step size c n)) d (rw (rw same at e) (or_left _ _ (eq-eqb d d refl)))
  | inr other ↦ place-front (steps size c n) (if_there (step size c n)) d (steps-has size c n k (omega arith) e)
]

pub beside-both : (size : Extent) {t c : ℕ} → 0 < size.w → t < size.w * size.h → c < size.w * size.h
    → has_place (steps size t 4) c ≡ true → has_place (steps size c 4) t ≡ true
beside-both size pos lt lc on = grind (arith, common_steps, steps-some, back, steps-has)

-- a step stays in the grid
step-in : (size : Extent) (c d k : ℕ) → 0 < size.w → c < size.w * size.h → k < 4 → step size c k ≡ Some d → d < size.w * size.h
step-in size c d zero pos lt less e = omega (arith, step-up size c d e)
step-in size c d (suc zero) pos lt less e = let u = step-left size c d e in omega (arith, u.0)
step-in size c d (suc (suc zero)) pos lt less e =
    let u = step-right size c d e in let v = cell-after c u.1 in
    let a = row-in size.h c pos lt in let b = ap (λ n. n / size.w) u.0 ∙ v.0 in
    cell-in size.h pos (omega arith)
step-in size c d (suc (suc (suc zero))) pos lt less e =
    let u = step-down size c d e in let v = cell-below c pos in
    let b = ap (λ n. n / size.w) u.0 ∙ v.0 in let s = u.1 in
    cell-in size.h pos (omega arith)
step-in size c d (suc (suc (suc (suc k)))) pos lt less e = absurd (omega arith)

pub beside-in : (size : Extent) {c : ℕ} (d : ℕ) → 0 < size.w → c < size.w * size.h → has_place (steps size c 4) d ≡ true → d < size.w * size.h
beside-in size {c} d pos lt on = let w = steps-some size c 4 d on in step-in size c d w.0 pos lt w.1 w.2

-- the one number is the other, or next to it
abbrev pub IsNextTo : ℕ → ℕ → Type 0
IsNextTo j k = (j ≡ k) ⊎ ((j + 1 ≡ k) ⊎ (j ≡ k + 1))

-- a step leads to a cell of the column, or of one beside it
pub step-across : (size : Extent) (c y x k : ℕ) → x < size.w → k < 4 → step size (y * size.w + x) k ≡ Some c → IsNextTo (c % size.w) x
step-across size c y x zero lt less e =
    let own = cell-parts y (y * size.w + x) lt refl in let up = step-up size _ c e in
    inl (sym (cell-below c (omega (arith, lt))).1 ∙ ap (λ n. n % size.w) up ∙ own.1)
step-across size c y x (suc zero) lt less e =
    let own = cell-parts y (y * size.w + x) lt refl in let left = step-left size _ c e in
    let some : 1 ≤ x = rw own.1 at left.1 in
    let at = (cell-parts {w = size.w} y {r = (x - 1)} c (omega arith) (let a = left.0 in omega arith)).1 in
    inr (inl (omega arith))
step-across size c y x (suc (suc zero)) lt less e =
    let own = cell-parts y (y * size.w + x) lt refl in let right = step-right size _ c e in
    inr (inr (ap (λ n. n % size.w) right.0 ∙ (cell-after _ right.1).1 ∙ ap (λ n. n + 1) own.1))
step-across size c y x (suc (suc (suc zero))) lt less e =
    let own = cell-parts y (y * size.w + x) lt refl in let down = step-down size _ c e in
    inl (ap (λ n. n % size.w) down.0 ∙ (cell-below _ (omega (arith, lt))).1 ∙ own.1)
step-across size c y x (suc (suc (suc (suc k)))) lt less e = absurd (omega arith)

-- a step leads to a cell of the row, or of one beside it
pub step-lies : (size : Extent) (c : ℕ) → 0 < size.w → (y x k : ℕ) → x < size.w → k < 4 → step size (y * size.w + x) k ≡ Some c → IsNextTo (c / size.w) y
step-lies size c pos y x zero lt less e =
    let own = cell-parts y (y * size.w + x) lt refl in let up = step-up size _ c e in
    inr (inl (sym (cell-below c pos).0 ∙ ap (λ n. n / size.w) up ∙ own.0))
step-lies size c pos y x (suc zero) lt less e =
    let own = cell-parts y (y * size.w + x) lt refl in let left = step-left size _ c e in
    let some : 1 ≤ x = rw own.1 at left.1 in
    inl (cell-parts {w = size.w} y {r = (x - 1)} c (omega arith) (let a = left.0 in omega arith)).0
step-lies size c pos y x (suc (suc zero)) lt less e =
    let own = cell-parts y (y * size.w + x) lt refl in let right = step-right size _ c e in
    inl (ap (λ n. n / size.w) right.0 ∙ (cell-after _ right.1).0 ∙ own.0)
step-lies size c pos y x (suc (suc (suc zero))) lt less e =
    let own = cell-parts y (y * size.w + x) lt refl in let down = step-down size _ c e in
    inr (inr (ap (λ n. n / size.w) down.0 ∙ (cell-below _ pos).0 ∙ ap (λ n. n + 1) own.0))
step-lies size c pos y x (suc (suc (suc (suc k)))) lt less e = absurd (omega arith)
