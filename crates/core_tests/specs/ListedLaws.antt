-- The rule set of listed neighbours is lawful.
use Rattle.std.proofs.Common.{◌≡◌, ℕ, zero, suc, ◌+◌, ◌-◌, ◌*◌, ◌<◌, ◌≤◌, true, false, List, [], ◌∷◌, slice_index, length, ap, refl, subst, sym, arith, inl, inr}
use Rattle.std.proofs.lemmas.Bool.{true≢false}
use Rattle.std.proofs.Math.Nat.{mul-le-mul_left}
use Rattle.grid_core.specs.Candidates.{count_below}
use Rattle.grid_core.proofs.BoardLemmas.{count_below-same}
use Rattle.grid_core.proofs.GridLemmas.{all-within, single-all}
use Rattle.engine_core.specs.HouseList.{scope_of}
use Rattle.engine_core.specs.HouseSets.{AreDifferent}
use Rattle.engine_core.specs.RuleSystem.{IsLawful, has_place, share}
use Rattle.core_tests.specs.Listed.{listed_rules, pairs}
use Rattle.core_tests.specs.NeighboursLaws.{again, pair-cases, pair-different, sum_few}

-- each house has two neighbours
scope-is : (h : ℕ) → h < 2 → scope_of pairs h ≡ h ∷ (h + 1) ∷ []
scope-is zero lt = refl
scope-is (suc zero) lt = refl
scope-is (suc (suc h)) lt = absurd (omega (arith, lt))

few : (c : ℕ) → count_below (λ h. has_place (scope_of pairs h) c) 2 - 1 ≤ 1
few c = subst (λ m. m - 1 ≤ 1) (count_below-same _ _ 2 (λ h lt. ap (λ s. has_place s c) (sym (scope-is h lt)))) (again 2 c)

below : (h c : ℕ) → h < 2 → has_place (scope_of pairs h) c ≡ true → c < 3
below h c lt member =
    elim (pair-cases h c (subst (λ s. has_place s c ≡ true) (scope-is h lt) member)) [ inl e ↦ omega (arith, lt, e) | inr e ↦ omega (arith, lt, e) ]

pub listed-lawful : IsLawful listed_rules
unfolding share
listed-lawful = record {
  strikes_inside = λ h K L lt inside c v on. absurd (true≢false (sym on));
  strikes_in_scope = λ h K c v lt on. absurd (true≢false (sym on));
  solutions_start = λ g grid good. single-all grid;
  solutions_closed = λ g grid good h c v lt on. refl;
  settles = λ settled h K c v lt low on. refl;
  bound_of_queue = λ e.
      let sum = sum_few (λ c. (2 - 1) * (count_below (λ h. has_place (scope_of pairs h) c) 2 - 1)) 1 3
      (λ c. let one = mul-le-mul_left 1 (few c) in omega (arith, one)) in omega (arith, sum);
  bound_of_sweeps = λ e. absurd (true≢false e);
  some_values = omega arith;
  few_values = omega arith;
  few_cells = omega arith;
  start_within = λ c v on. all-within 2 c v on;
  scope_within = λ h c lt member. below h c lt member;
  scope_distinct = λ h j k lt. subst AreDifferent (sym (scope-is h lt)) (pair-different h) j k;
}
