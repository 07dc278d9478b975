-- What visits of the trees of a row take from a board.
use Rattle.fields_core.proofs.Common.{ArePlanesAlive, AreVisited, Bool, Candidates, CountHouse, IsFurther, IsHouse, IsInside, IsRowOf, IsTents, Layers, List, Tents, [], after_house, after_visits, and-true, and_parts, any_below, any_below-none, any_below-same, any_below-some, ap, arith, beside, cases_Bool, common_steps, count_by, count_by-le-length, eqb, false, false_from_ne_true, filter, free_beside, fun_ext, planes_have, has_bit, has_place, has_place-here, houses_below, inl, inr, is_beside, length, length-filter, list_any, lt-ltb, ltb, ltb-false, ltb-true, not, not-false, not-true, one_at_least, place-in, refl, slice_index, suc, sym, tent_cells, tree, tree_house, trees_of_row, true, true≢false, wants_tent, without_zeros, zero, ℕ, ◌&&◌, ◌*◌, ◌++◌, ◌+◌, ◌-◌, ◌<◌, ◌||◌, ◌∙◌, ◌∷◌, ◌≡◌, ◌≤◌, ◌⊎◌}
use Rattle.fields_core.proofs.PartLemmas.{value-in}
use Rattle.fields_core.proofs.PlaceLists.{count-cons, count-none, count-some, filter-has}
use Rattle.fields_core.proofs.TentCounting.{tree-is}
use Rattle.fields_core.proofs.VisitLemmas.{below-rest, below-rows, visited-dies, visited-left, visits-append, visits-inside}
use Rattle.fields_core.proofs.HouseLemmas.{below-more}
use Rattle.fields_core.proofs.AtLeastLemmas.{IsHouseFilled, IsOfTwo, least-board, least-broken}

-- ---- boards without zeros
count-stays : (passes : ℕ → Bool) (K : Candidates) (places : List ℕ) → count_by (λ d. without_zeros passes K d 1) places ≡ count_by (λ d. K d 1) places
unfolding without_zeros
count-stays passes K places = ap (λ (test : ℕ → Bool). count_by test places) (fun_ext λ d. and-true (K d 1))

filled-stays : (passes : ℕ → Bool) (K : Candidates) (places : List ℕ) → IsHouseFilled places K → IsHouseFilled places (without_zeros passes K)
filled-stays passes K places (inl none) = inl none
filled-stays passes K places (inr some) = inr (omega (arith, some, count-stays passes K places))

zeros-inside : (passes : ℕ → Bool) (K : Candidates) → IsInside (without_zeros passes K) K
unfolding without_zeros
zeros-inside passes K = λ c v on. (and_parts _ _ on).0

-- where only cells that have 1 lose 0, no cell is left without a value
pub zeros-full : (passes : ℕ → Bool) (K : Candidates) (c : ℕ) → (passes c ≡ true → K c 1 ≡ true) → (K c 0 ≡ true) ⊎ (K c 1 ≡ true)
    → (without_zeros passes K c 0 ≡ true) ⊎ (without_zeros passes K c 1 ≡ true)
unfolding without_zeros
zeros-full passes K c ones some = grind (arith, common_steps, cases_Bool (K c 0), cases_Bool (K c 1), cases_Bool (passes c))

-- ---- the trees of a row
-- how many of the free cells beside a cell of the row can have a tent
abbrev pub may : Tents → Candidates → ℕ → ℕ → ℕ
may p K y x = count_by (λ d. K d 1) (free_beside p (y * p.size.w + x))

-- one that can, beside a tree
abbrev pub lone : Tents → Candidates → ℕ → ℕ → Bool
lone p K y x = tree p (y * p.size.w + x) && eqb (may p K y x) 1

-- a free cell that can have a tent, beside such a tree among the first n cells
abbrev pub struck : Tents → Candidates → ℕ → ℕ → ℕ → Bool
struck p K y n c = (not (tree p c) && K c 1) && is_beside p.size y (lone p K y) n c

-- of the trees among the first n cells each has a free cell that can have a tent, or no free cell
abbrev pub AreFilled : Tents → Candidates → ℕ → ℕ → Type 0
AreFilled p K y n = (x : ℕ) → x < n → tree p (y * p.size.w + x) ≡ true → IsHouseFilled (free_beside p (y * p.size.w + x)) K

struck-one : (p : Tents) (K : Candidates) (y n c : ℕ) → struck p K y n c ≡ true → K c 1 ≡ true
struck-one p K y n c on = (and_parts _ _ (and_parts _ _ on).0).1

module _ (p : Tents) (lawful : IsTents p) (K : Candidates) (y : ℕ) (y_in : y < p.size.h) (two : IsOfTwo K)
    (alive : (c : ℕ) → c < tent_cells p → (K c 0 ≡ true) ⊎ (K c 1 ≡ true)) where
  abbrev cell : ℕ → ℕ
  cell x = y * p.size.w + x

  house-in : {x : ℕ} → x < p.size.w → tree p (cell x) ≡ true → IsHouse (tent_cells p) (one_at_least (free_beside p (cell x)))
  house-in {x} lt is = tree-is p lawful (place-in p.size.w p.size.h y x y_in lt) is

  next-tree : {n : ℕ} → n < p.size.w → tree p (cell n) ≡ true → IsHouseFilled (free_beside p (cell n)) K
      → after_house (one_at_least (free_beside p (cell n))) (without_zeros (struck p K y n) K) ≡ without_zeros (struck p K y (suc n)) K
  unfolding without_zeros is_beside any_below
  next-tree {n} lt is filled =
      let house = house-in lt is in let J = without_zeros (struck p K y n) K in
      least-board house
      (λ c there. zeros-full (struck p K y n) K c (struck-one p K y n c) (alive c (house.within c there)))
      (filled-stays (struck p K y n) K (free_beside p (cell n)) filled)
      (λ c v on. two c v (zeros-inside (struck p K y n) K c v on))
      ∙ (fun_ext λ c. fun_ext λ v. rw (count-stays (struck p K y n) K (free_beside p (cell n)), filter-has (λ d. not (tree p d)) (beside p.size (cell n)) c, is) (grind (arith, common_steps, cases_Bool (K c v), cases_Bool (eqb v 0), cases_Bool (K c 1), cases_Bool (not (tree p c)), cases_Bool (is_beside p.size y (lone p K y) n c), cases_Bool (has_place (beside p.size (cell n)) c), cases_Bool (eqb (may p K y n) 1))))

  next-bare : (n : ℕ) → tree p (cell n) ≡ false → without_zeros (struck p K y n) K ≡ without_zeros (struck p K y (suc n)) K
  unfolding without_zeros is_beside any_below
  next-bare n off = fun_ext λ c. fun_ext λ v. rw off (by (K c v) (eqb v 0) (K c 1) (not (tree p c)) (is_beside p.size y (lone p K y) n c))
    where
      by : (k z o f s : Bool) → (k && not (z && ((f && o) && s))) ≡ (k && not (z && ((f && o) && (s || false))))
      by k z o f s = grind (arith, common_steps, cases_Bool s)

  next-visit : (n : ℕ) → n < p.size.w → AreFilled p K y (suc n) → after_visits (tree_house p (cell n)) (without_zeros (struck p K y n) K) ≡ without_zeros (struck p K y (suc n)) K
  unfolding after_visits
  next-visit n lt filled = grind (arith, common_steps, cases_Bool, next-tree, next-bare)

  pub trees-board : (n : ℕ) → n ≤ p.size.w → AreFilled p K y n → after_visits (houses_below (λ x. tree_house p (cell x)) n) K ≡ without_zeros (struck p K y n) K
  unfolding houses_below after_visits without_zeros is_beside any_below
  trees-board zero le filled = fun_ext λ c. fun_ext λ v. grind (arith, common_steps, cases_Bool)
  trees-board (suc n) le filled = grind (arith, common_steps, visits-append, next-visit, trees-board n (omega arith) (λ x lt. filled x (omega arith)))

  -- a tree whose free cells can have no tent
  pub trees-dead : {x : ℕ} (d : ℕ) {v : ℕ} → x < p.size.w → tree p (cell x) ≡ true → may p K y x ≡ 0 → has_place (free_beside p (cell x)) d ≡ true → v < 2
      → after_visits (trees_of_row p y) K d v ≡ false
  unfolding after_visits
  trees-dead {x} d {v} lt is none there low =
      let f : ℕ → List CountHouse = (λ k. tree_house p (cell k)) in
      let J = after_visits (houses_below f x) K in let w = below-rest f (x + 1) (p.size.w - (x + 1)) in
      let e : x + 1 + (p.size.w - (x + 1)) ≡ p.size.w = omega arith in
      let split : trees_of_row p y ≡ (houses_below f x ++ f x) ++ w.0 = ap (houses_below f) (sym e) ∙ w.1 ∙ ap (λ (hs : List CountHouse). hs ++ w.0) (below-more f x) in
      let fewer : count_by (λ c. J c 1) (free_beside p (cell x)) ≡ 0 = count-none (λ c. J c 1) (free_beside p (cell x)) (λ c at. false_from_ne_true _ (λ on. absurd (omega (arith, none, count-some (λ c. K c 1) (free_beside p (cell x)) c at (visits-inside (houses_below f x) K c 1 on))))) in
      false_from_ne_true _ (λ on. true≢false (sym (visits-inside w.0 (after_visits (f x) J) d v (rw (split, visits-append (houses_below f x ++ f x) w.0 K, visits-append (houses_below f x) (f x) K) at on))
      ∙ rw is (least-broken (free_beside p (cell x)) J (house-in lt is) fewer d there low)))

-- ---- the planes
-- of the elements that a filter keeps, those that pass
count-filtered : (keeps passes : ℕ → Bool) (xs : List ℕ) → count_by passes (filter keeps xs) ≡ count_by (λ c. keeps c && passes c) xs
count-filtered keeps passes [] = refl
count-filtered keeps passes (x ∷ xs) = grind (arith, common_steps, cases_Bool (keeps x), cases_Bool (passes x), count-cons, count-filtered keeps passes xs)

-- whether one passes, and how many do
any-count : (test : ℕ → Bool) (xs : List ℕ) → list_any test xs ≡ ltb 0 (count_by test xs)
any-count test [] = refl
any-count test (x ∷ xs) = grind (arith, common_steps, cases_Bool (test x), count-cons, any-count test xs)

module _ (p : Tents) (y : ℕ) (from : Layers) (room : ℕ) (wants some broken : ℕ) (lawful : IsTents p) (size : from.size ≡ p.size) (y_in : y < p.size.h) (alive : ArePlanesAlive from)
    (narrow : p.size.w ≤ room)
    (wants_is : IsRowOf p.size.w (wants_tent p) y wants)
    (some_is : (x : ℕ) → x < p.size.w → has_bit some x ≡ ltb 0 (count_by (λ c. not (tree p c) && planes_have from c 1) (beside p.size (y * p.size.w + x))))
    (broken_is : (x : ℕ) → has_bit broken x ≡ (has_bit wants x && not (has_bit some x))) where
  full : (c : ℕ) → c < tent_cells p → (planes_have from c 0 ≡ true) ⊎ (planes_have from c 1 ≡ true)
  full c lt = alive c (rw size lt)

  -- a tree wants a tent where there is a free cell beside it
  wants-at : {x : ℕ} → x < p.size.w → has_bit wants x ≡ (tree p (y * p.size.w + x) && ltb 0 (length (free_beside p (y * p.size.w + x))))
  unfolding wants_tent
  wants-at {x} lt = wants_is x ∙ rw (lt-ltb _ _ lt, any-count (λ c. not (tree p c)) (beside p.size (y * p.size.w + x)), length-filter (λ c. not (tree p c)) (beside p.size (y * p.size.w + x))) refl

  may-is : (x : ℕ) → may p (planes_have from) y x ≡ count_by (λ c. not (tree p c) && planes_have from c 1) (beside p.size (y * p.size.w + x))
  may-is x = count-filtered (λ c. not (tree p c)) (λ c. planes_have from c 1) (beside p.size (y * p.size.w + x))

  -- a tree whose free cells can have no tent
  pub row-dead : any_below (has_bit broken) room ≡ true → AreVisited (trees_of_row p y) from from false
  row-dead on =
      let w = any_below-some (has_bit broken) room on in let parts = and_parts _ _ (sym (broken_is w.0) ∙ w.2) in
      let lt : w.0 < p.size.w = ltb-true _ _ (and_parts _ _ (sym (wants_is w.0) ∙ parts.0)).0 in
      let here = and_parts _ _ (sym (wants-at lt) ∙ parts.0) in
      let long : 0 < length (free_beside p (y * p.size.w + w.0)) = ltb-true _ _ here.1 in
      let none : may p (planes_have from) y w.0 ≡ 0 = (let few = ltb-false _ _ (sym (some_is w.0 lt) ∙ not-true _ parts.1) in omega (arith, few, may-is w.0)) in
      let there = has_place-here (free_beside p (y * p.size.w + w.0)) 0 long in
      let d = slice_index (free_beside p (y * p.size.w + w.0)) 0 in
      visited-dies d (rw size ((tree-is p lawful (place-in p.size.w p.size.h y w.0 y_in lt) here.0).within d there))
      (λ v low. trees-dead p lawful (planes_have from) y y_in (value-in from) full d lt here.0 none there low) alive

  filled : any_below (has_bit broken) room ≡ false → AreFilled p (planes_have from) y p.size.w
  filled off x lt is = elim (cases_Bool (ltb 0 (length (free_beside p (y * p.size.w + x))))) [
    | inr none ↦ inl (let few = ltb-false _ _ none in omega (arith, few))
    | inl on ↦
        let own : has_bit wants x ≡ true = wants-at lt ∙ rw (is, on) refl in
        let sound : not (has_bit some x) ≡ false = rw own at (sym (broken_is x) ∙ any_below-none (has_bit broken) room off x (omega arith)) in
        inr (let more = ltb-true _ _ (sym (some_is x lt) ∙ not-false _ sound) in omega (arith, more, may-is x))
  ]

  -- a tree with one free cell that can have a tent wants one
  lone-wants : {x : ℕ} → x < p.size.w → (has_bit wants x && eqb (may p (planes_have from) y x) 1) ≡ lone p (planes_have from) y x
  lone-wants {x} lt = rw (wants-at lt) (by (tree p (y * p.size.w + x)) (length (free_beside p (y * p.size.w + x))) (may p (planes_have from) y x) (count_by-le-length _ (free_beside p (y * p.size.w + x))))
    where
      by : (t : Bool) (long may : ℕ) → may ≤ long → ((t && ltb 0 long) && eqb may 1) ≡ (t && eqb may 1)
      by t zero zero le = grind (arith, common_steps, cases_Bool t)
      by t zero (suc may) le = absurd (omega arith)
      by t (suc long) may le = grind (arith, common_steps, cases_Bool t)

  -- the words of the trees that have one cell left, and what is taken beside them
  pub row-visited : (one ones : ℕ) {to : Layers} → any_below (has_bit broken) room ≡ false
      → ((x : ℕ) → x < p.size.w → has_bit one x ≡ eqb (count_by (λ c. not (tree p c) && planes_have from c 1) (beside p.size (y * p.size.w + x))) 1)
      → ((x : ℕ) → has_bit ones x ≡ (has_bit wants x && has_bit one x))
      → planes_have to ≡ without_zeros (λ c. (not (tree p c) && planes_have from c 1) && is_beside p.size y (has_bit ones) p.size.w c) (planes_have from)
      → IsFurther from to → AreVisited (trees_of_row p y) from to true
  unfolding is_beside
  row-visited one ones {to} off one_is ones_is left further =
      let same : (x : ℕ) → x < p.size.w → has_bit ones x ≡ lone p (planes_have from) y x = λ x lt. ones_is x ∙ rw (one_is x lt, sym (may-is x)) (lone-wants lt) in
      let board : planes_have to ≡ without_zeros (struck p (planes_have from) y p.size.w) (planes_have from) = left ∙ ap (λ (t : ℕ → Bool). without_zeros t (planes_have from))
      (fun_ext λ c. ap (λ b. (not (tree p c) && planes_have from c 1) && b)
      (any_below-same (λ x. has_bit ones x && has_place (beside p.size (y * p.size.w + x)) c) (λ x. lone p (planes_have from) y x && has_place (beside p.size (y * p.size.w + x)) c) p.size.w
      (λ x lt. rw (same x lt) refl))) in
      visited-left (board ∙ sym (trees-board p lawful (planes_have from) y y_in (value-in from) full p.size.w (omega arith) (filled off)))
      (λ c lt. rw board (zeros-full (struck p (planes_have from) y p.size.w) (planes_have from) c (struck-one p (planes_have from) y p.size.w c) (alive c (rw (further.same_size) at lt)))) further

-- ---- the trees of all rows
pub trees-are : (p : Tents) → houses_below (trees_of_row p) p.size.h ≡ houses_below (tree_house p) (tent_cells p)
trees-are p = below-rows (tree_house p) p.size.w p.size.h ∙ ap (houses_below (tree_house p)) (let e : p.size.h * p.size.w ≡ p.size.w * p.size.h = omega arith in e)
