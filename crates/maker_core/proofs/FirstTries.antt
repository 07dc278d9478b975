-- What a search says of solutions, and the loop over tries.
use Rattle.maker_core.proofs.Common.{Bool, Candidates, Err, HasOne, HasTwo, IsFirst, IsFirstPassing, IsGridOf, IsInside, IsLawful, IsOnly, IsOnlySolution, IsTrue, IsTrueOf, LeavesStream, List, Mark.Found, None, Outcome, Outcome.GaveUp, Outcome.NoSolution, Outcome.OneSolution, Outcome.SeveralSolutions, Result, RuleSystem, Solves, Stream, TellsOne, Tries, [], add-one, ap, arith, cases_eq, closure, closure_inside, closure_largest, common_steps, count_below, count_below-few, count_below-pos, false, filling_at, grid_of-full, has_one, is_dead-each, is_full-each, is_one, length, outcome, outcome-true, refl, same_number_lists, single, single-at, single-is, slice_index, stream_after, subst, suc, sym, true, walk, walk-unfold, walk_closed-solved, zero, ℕ, ◌+◌, ◌<◌, ◌↔◌, ◌∙◌, ◌∷◌, ◌≡◌, ◌≢◌}
use Rattle.maker_core.specs.declared.made.MakeFault.{MakeFault}
use Rattle.maker_core.specs.declared.made.MakeFault.TheVariants.{Exhausted, Memory, SizeRange}

-- Where the closure of the start leaves each cell only its number of a solution, the verdict is that one, whatever the budget. So
-- it is where the start is the solution alone, and then no other grid lies inside the start.

pub found_one : (budget : ℕ) (g : List ℕ) → outcome budget None (Found g ∷ []) ≡ OneSolution g
unfolding outcome
found_one zero g = refl
found_one (suc budget) g = refl

module _ {p : RuleSystem} (laws : IsLawful p) {g : List ℕ} (solves : Solves p g) where
  module _ (alone : (c v : ℕ) → c < p.cells → v < p.values → closure p p.start c v ≡ true → v ≡ slice_index g c) where
    abbrev left : Candidates
    left = closure p p.start

    stays : IsInside (single g) left
    stays = closure_largest p laws (single g) p.start
        (laws.solutions_closed g solves.grid solves.good) (laws.solutions_start g solves.grid solves.good)

    one_value : (c : ℕ) → c < p.cells → count_below (left c) p.values ≡ 1
    one_value c lt =
        let inside : c < length g = omega (arith, solves.grid.each_cell) in
        let low = count_below-pos (left c) p.values _ (solves.grid.each_value c 0 inside) (stays c _ (single-at g c inside)) in
        omega (arith, low, count_below-few (left c) p.values (λ k j ltk ltj onk onj. alone c k lt ltk onk ∙ sym (alone c j lt ltj onj)))

    pub found_at_once : (budget : ℕ) → TellsOne p budget g
    found_at_once budget =
        let alive = is_dead-each p.cells p.values left (λ c lt. omega (arith, one_value c lt)) in
        let full = is_full-each p.cells p.values left one_value in
        let long = solves.grid.each_cell in
        let same = grid_of-full p.cells p.values left g full long (λ c lt. solves.grid.each_value c 0 (omega arith)) stays in
        ap (outcome budget None) (walk-unfold p 0 p.start laws.start_within
        ∙ walk_closed-solved p (walk p 1) 0 left alive full (ap p.is_solution same ∙ solves.good) ∙ ap (λ h. Found h ∷ []) same)
        ∙ found_one budget g

  module _ (inside : IsInside p.start (single g)) where
    pub start_found : (budget : ℕ) → TellsOne p budget g
    start_found = found_at_once (λ c v lc lv on. sym (single-is g c v (inside c v (closure_inside p p.start c v on))).1)

    pub start_only : IsTrueOf p (OneSolution g)
    start_only = (
      solves,
      λ h other.
          let long = solves.grid.each_cell in
          let long' = other.grid.each_cell in
          same_number_lists g h (omega arith) (λ k lt. (single-is g k _
          (inside k _ (laws.solutions_start h other.grid other.good k _ (single-at h k (omega arith))))).1),
    )

-- What a search says of the solutions of its rules it says of the solutions of the game, where the two agree.

-- a grid that solves is the one of the verdict
pub one_grid : {rules : RuleSystem} (g : List ℕ) {budget : ℕ} → HasOne rules budget → Solves rules g → IsOnly rules g × TellsOne rules budget g
one_grid {rules} g {budget} one good = subst (λ h. IsOnly rules h × TellsOne rules budget h) (one.only.1 g good) (one.only, one.found)

module _ (rules : RuleSystem) (solves : List ℕ → Type 0) (fits : (h : List ℕ) → solves h → IsGridOf rules h)
    (accepted : (h : List ℕ) → IsGridOf rules h → (IsTrue (rules.is_solution h)) ↔ solves h) where
  pub solution : (h : List ℕ) → solves h → Solves rules h
  solution h s = record { grid = fits h s; good = (accepted h (fits h s)).1 s }

  pub only_is : {g : List ℕ} → IsOnly rules g → IsOnlySolution solves g
  only_is {g} only = ((accepted g only.0.grid).0 only.0.good, λ h s. sym (only.1 h (solution h s)))

  pub one_is : {g : List ℕ} {budget : ℕ} → HasOne rules budget → solves g → IsOnlySolution solves g × TellsOne rules budget g
  one_is {g} one good = let w = one_grid g one (solution g good) in (only_is w.0, w.1)

-- two solutions refute a verdict of one
two_fail : (rules : RuleSystem) (o : Outcome) → IsTrueOf rules o → HasTwo rules → is_one o ≡ false
two_fail rules NoSolution true_of two = refl
two_fail rules (OneSolution first) true_of two = absurd (two.differ (sym (true_of.1 two.first two.first_solves) ∙ true_of.1 two.second two.second_solves))
two_fail rules (SeveralSolutions first second) true_of two = refl
two_fail rules (GaveUp first) true_of two = refl

pub two_have_none : (rules : RuleSystem) (budget : ℕ) → IsLawful rules → HasTwo rules → false ≡ has_one rules budget
two_have_none rules budget laws two = sym (two_fail rules _ (outcome-true rules laws budget) two)

-- The loop over tries: so many fillings were made, and each failed.

module _ {A : Type 0} (t : Tries A) (known : A → Bool → Type 0) (s : Stream) where
  -- so many tries were made, each failed, and the generator stands where the last left it
  pub record IsTrying (done : ℕ) (now : Stream) : Type 0 where
    pub stands : now ≡ stream_after t.make done s
    pub failing : (j : ℕ) → j < done → (t.passes (filling_at t.make j s) ≡ false) × known (filling_at t.make j s) false

  -- one more filling is made
  module _ {done : ℕ} {now u : Stream} {x : A} (p : IsTrying done now) (made : (x, u) ≡ t.make now) where
    filling_is : x ≡ filling_at t.make done s
    filling_is = ap (λ q. q.0) made ∙ ap (λ w. (t.make w).0) p.stands

    left_is : u ≡ stream_after t.make (suc done) s
    unfolding stream_after
    left_is = ap (λ q. q.1) made ∙ ap (λ w. (t.make w).1) p.stands

    pub IsTrying-more : t.passes x ≡ false → known x false → IsTrying (done + 1) u
    IsTrying-more fails and_so = grind (arith, common_steps, add-one, left_is, cases_eq, filling_is)

    pub first_is : t.passes x ≡ true → done < t.count → IsFirst t s x u
    first_is passing within = grind (arith, common_steps, filling_is, left_is)

-- the stream that is left where the first that passes was made to a puzzle
pub draws_first : {A : Type 0} {t : Tries A} {s u left : Stream} {x : A} → IsFirst t s x u → left ≡ t.ends x u
    → (k : ℕ) → IsFirstPassing t.make t.passes s t.count k → left ≡ t.ends (filling_at t.make k s) (stream_after t.make (suc k) s)
draws_first w is k first = grind (arith, common_steps)

-- the stream that is left where none was found
pub leaves_failed : {A X : Type 0} (t : Tries A) (old : Stream) {new : Stream} {result : Result X MakeFault} (e : MakeFault)
    → result ≡ Err e → e ≢ SizeRange → (e ≡ Exhausted → new ≡ stream_after t.make t.count old) → LeavesStream t old new result
leaves_failed t old SizeRange is sized all = absurd (sized refl)
leaves_failed t old Exhausted is sized all = rw is (all refl)
leaves_failed t old Memory is sized all = rw is tt
