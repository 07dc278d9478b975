-- Of tests in their order one is the first that fails, or none fails; and it is one alone.
use Rattle.gameid_core.specs.Common.{AllByRecursion, Bool, IsAnswerOfCheck, IsFirstFailed, List, None, NoneFails, Option, Some, [], arith, false, false≢true, get_or, get_or-map-range_with_len, inl, inr, is_some, length, length-map-range_with_len, map, not, range_with_len, recursion_from_All, refl, subst, suc, sym, true, zero, ℕ, ◌++◌, ◌<◌, ◌↔◌, ◌∷◌, ◌≡◌, ◌⊎◌}
use Rattle.gameid_core.proofs.LineLaws.{AllByRecursion-append, all_at}
use Rattle.std.proofs.lemmas.Bool.{not-false, not-true, true_from_ne_false}

pub all_split : {F : Type 0} (P : F → Type 0) (xs ys : List F) → AllByRecursion P (xs ++ ys) → AllByRecursion P xs × AllByRecursion P ys
all_split P [] ys all = (tt, all)
all_split P (x ∷ xs) ys all = let rest = all_split P xs ys all.1 in ((all.0, rest.0), rest.1)

-- ---- kinds of tests, each made by a Boolean test
pub record TestKind (F : Type 0) : Type 0 where
  pub test : ℕ → F
  pub count : ℕ
  pub right : ℕ → Bool

abbrev pub each : {F : Type 0} → TestKind F → List F
each k = map k.test (range_with_len 0 k.count)

abbrev pub tests : {F : Type 0} → List (TestKind F) → List F
tests [] = []
tests (k ∷ ks) = each k ++ tests ks

each_at : {F : Type 0} (k : TestKind F) (c : ℕ) (d : F) → c < k.count → get_or (each k) c d ≡ k.test c
each_at k c d lt = get_or-map-range_with_len k.test 0 k.count c c d lt (omega arith)

pub all_each : {F : Type 0} (P : F → Type 0) (k : TestKind F) → ((c : ℕ) → c < k.count → P (k.test c)) → AllByRecursion P (each k)
all_each P k all =
    recursion_from_All P (each k) (λ c d lt. let low : c < k.count =
    rw length-map-range_with_len at lt in subst P (sym (each_at k c d low)) (all c low))

each_all : {F : Type 0} (P : F → Type 0) (k : TestKind F) → AllByRecursion P (each k) → (c : ℕ) → c < k.count → P (k.test c)
each_all P k all c lt = subst P (each_at k c (k.test c) lt) (all_at P (k.test c) (each k) c all (rw length-map-range_with_len lt))

module _ {F : Type 0} (fails : F → Type 0) where
  abbrev pub Holds : F → Type 0
  Holds test = fails test → ⊥

  -- ---- the first that fails
  pub first_front : (front rest : List F) (f : F) → IsFirstFailed fails front f → IsFirstFailed fails (front ++ rest) f
  first_front [] rest f h = grind arith
  first_front (t ∷ front) rest f h = grind (arith, first_front front rest f)

  pub first_rest : (front rest : List F) (f : F) → NoneFails fails front → IsFirstFailed fails rest f → IsFirstFailed fails (front ++ rest) f
  first_rest [] rest f none first = first
  first_rest (t ∷ front) rest f none first = inr (none.0, first_rest front rest f none.1 first)

  pub first_at : (tests : List F) (k : ℕ) (d : F) → k < length tests → fails (get_or tests k d)
      → ((j : ℕ) → j < k → Holds (get_or tests j d)) → IsFirstFailed fails tests (get_or tests k d)
  first_at [] k d lt failed before = absurd (omega arith)
  first_at (t ∷ tests) zero d lt failed before = inl (refl, failed)
  first_at (t ∷ tests) (suc k) d lt failed before =
      inr
      (before 0 (omega arith), first_at tests k d (omega arith) failed (λ j low. before (suc j) (omega arith)))

  pub first_each : (k : TestKind F) (c : ℕ) → c < k.count → fails (k.test c) → ((d : ℕ) → d < c → Holds (k.test d)) → IsFirstFailed fails (each k) (k.test c)
  first_each k c lt failed before =
      let at : (d : ℕ) → d < k.count → get_or (each k) d (k.test c) ≡ k.test d = λ d. each_at k d (k.test c) in
      subst (IsFirstFailed fails (each k)) (at c lt) (first_at (each k) c (k.test c) (rw length-map-range_with_len lt) (subst fails (sym (at c lt)) failed)
      (λ d low. subst Holds (sym (at d (omega arith))) (before d low)))

  none_first : (tests : List F) (f : F) → NoneFails fails tests → IsFirstFailed fails tests f → ⊥
  none_first [] f none h = grind arith
  none_first (t ∷ tests) f none h = grind (arith, none_first tests f none.1)

  first_once : (tests : List F) {f g : F} → IsFirstFailed fails tests f → IsFirstFailed fails tests g → f ≡ g
  first_once [] h k = grind arith
  first_once (t ∷ tests) h k = grind (arith, first_once tests)

  -- ---- one first that fails, or none
  abbrev pub IsKnown : F → Type 0
  IsKnown test = fails test ⊎ Holds test

  pub known_by : {test : F} (right : Bool) → (right ≡ false → fails test) → (right ≡ true → Holds test) → IsKnown test
  known_by right failed held = grind arith

  judged : (tests : List F) → AllByRecursion IsKnown tests → NoneFails fails tests ⊎ ((f : F) × IsFirstFailed fails tests f)
  judged [] known = inl tt
  judged (t ∷ tests) known = by known.0 (judged tests known.1)
    where
      by : IsKnown t → NoneFails fails tests ⊎ ((f : F) × IsFirstFailed fails tests f)
          → NoneFails fails (t ∷ tests) ⊎ ((f : F) × IsFirstFailed fails (t ∷ tests) f)
      by (inl failed) rest = inr (t, inl (refl, failed))
      by (inr holds) (inl none) = inl (holds, none)
      by (inr holds) (inr first) = inr (first.0, inr (holds, first.1))

  -- ---- the tests of kinds
  pub record IsKindMade (k : TestKind F) : Type 0 where
    pub failed : (c : ℕ) → c < k.count → k.right c ≡ false → fails (k.test c)
    pub held : (c : ℕ) → c < k.count → k.right c ≡ true → Holds (k.test c)

  abbrev pub AreHeld : TestKind F → Type 0
  AreHeld k = (c : ℕ) → c < k.count → Holds (k.test c)

  abbrev pub AreRight : TestKind F → Type 0
  AreRight k = (c : ℕ) → c < k.count → k.right c ≡ true

  pub none_held : (ks : List (TestKind F)) → AllByRecursion AreHeld ks → NoneFails fails (tests ks)
  none_held [] held = tt
  none_held (k ∷ ks) held = AllByRecursion-append Holds (each k) (tests ks) (all_each Holds k held.0) (none_held ks held.1)

  pub none_right : (ks : List (TestKind F)) → AllByRecursion IsKindMade ks → AllByRecursion AreRight ks → NoneFails fails (tests ks)
  none_right [] made right = tt
  none_right (k ∷ ks) made right =
      AllByRecursion-append Holds (each k) (tests ks) (all_each Holds k (λ c lt. made.0.held c lt (right.0 c lt))) (none_right ks made.1 right.1)

  pub right_none : (ks : List (TestKind F)) → AllByRecursion IsKindMade ks → NoneFails fails (tests ks) → AllByRecursion AreRight ks
  right_none [] made none = tt
  right_none (k ∷ ks) made none =
      let both = all_split Holds (each k) (tests ks) none in
      ((λ c lt. true_from_ne_false (k.right c) (λ off. each_all Holds k both.0 c lt (made.0.failed c lt off))), right_none ks made.1 both.1)

  pub known_tests : (ks : List (TestKind F)) → AllByRecursion IsKindMade ks → AllByRecursion IsKnown (tests ks)
  known_tests [] made = tt
  known_tests (k ∷ ks) made = AllByRecursion-append IsKnown (each k) (tests ks)
      (all_each IsKnown k (λ c lt. known_by (k.right c) (made.0.failed c lt) (made.0.held c lt))) (known_tests ks made.1)

  -- the first that fails of one kind, where those of the kinds before it hold
  pub first_in : (front : List (TestKind F)) (k : TestKind F) (rest : List (TestKind F)) → AllByRecursion IsKindMade (front ++ k ∷ rest) → AllByRecursion AreRight front
      → (c : ℕ) → c < k.count → k.right c ≡ false → ((d : ℕ) → d < c → k.right d ≡ true) → IsFirstFailed fails (tests (front ++ k ∷ rest)) (k.test c)
  first_in [] k rest made right c lt off before =
      first_front (each k) (tests rest) (k.test c) (first_each k c lt (made.0.failed c lt off) (λ d low. made.0.held d (omega arith) (before d low)))
  first_in (j ∷ front) k rest made right c lt off before =
      first_rest (each j) (tests (front ++ k ∷ rest)) (k.test c)
      (all_each Holds j (λ d low. made.0.held d low (right.0 d low)))
      (first_in front k rest made.1 right.1 c lt off before)

  -- ---- the answer of a check, where a grid that no test fails is a solution, and no test fails a solution
  pub one_answer : {solution : Type 0} (tests : List F) → (NoneFails fails tests → solution)
      → AllByRecursion IsKnown tests → (fault : Option F)
      × IsAnswerOfCheck solution fails tests fault
  one_answer tests sound known = elim (judged tests known) [ inl none ↦ (None, sound none) | inr first ↦ (Some first.0, first.1) ]

  module _ {solution : Type 0} (tests : List F) (complete : solution → NoneFails fails tests) where
    abbrev Answers : Option F → Type 0
    Answers fault = IsAnswerOfCheck solution fails tests fault

    pub answer_once : (a b : Option F) → Answers a → Answers b → a ≡ b
    answer_once a b x y = grind (arith, none_first, first_once)

    pub none_exactly : (fault : Option F) → Answers fault → (fault ≡ None) ↔ solution
    none_exactly fault is = (λ e. subst Answers e is, λ s. answer_once fault None is s)

    -- whether nothing is wrong, as a Bool
    pub tells : (told : Bool) (fault : Option F) → Answers fault → is_some fault ≡ not told → (told ≡ true) ↔ solution
    tells told fault is e = grind (arith, not-false, false≢true, not-true, none_first)

    pub none_tells : (told right : Bool) → (right ≡ true → solution) → (solution → right ≡ true)
        → (fault : Option F) → Answers fault → is_some fault ≡ not told → told ≡ right
    none_tells told right from to fault is e = let both = tells told fault is e in grind (arith, both.0, both.1, from, to)
