-- A puzzle of sound houses is lawful; and visits enough for each house once, and once more for each value of its cells.
use Rattle.std.proofs.Common.{◌≡◌, ℕ, zero, suc, ◌+◌, ◌-◌, ◌*◌, ◌<◌, ◌≤◌, Bool, true, false, not, cond, ◌&&◌, eqb, List, [], ◌∷◌, length, refl, sym, ap, ◌∙◌, arith}
use Rattle.engine_core.specs.Below.{All, count_below, eqb-true, or_cases, sum_below, sum_by, sum_by-cons}
use Rattle.std.proofs.lemmas.Nat.{mul-le}
use Rattle.grid_core.proofs.BoardLemmas.{sum_below-le, sum_below-add, count_below-or, count_below-few, count_below-none}
use Rattle.engine_core.specs.RuleSystem.{IsLawful, after, has_place, share}
use Rattle.engine_core.specs.PlaceLaws.{has_place-at}
use Rattle.engine_core.specs.HouseSets.{Decision, strikes_at}
use Rattle.engine_core.specs.HouseSetsLaws.{strikes_at-in_scope, strikes_at-inside, settled_at, closed_at}
pub use Rattle.engine_core.specs.HouseSetsLaws.{by_fillings-settles, by_fillings-keeps}
use Rattle.engine_core.specs.HouseRules.{House, house_of, no_house, Setting, by_houses, IsSound, IsSetting, visits_of}

-- ---- a puzzle of sound houses
pub by_houses-lawful : (s : Setting) (houses : List House) → IsSetting s → All (IsSound s) houses
    → (s.by_queue ≡ true → length houses + sum_below (λ c. (s.values - 1) * share (by_houses s houses) c) s.cells ≤ s.bound)
    → (s.by_queue ≡ false → s.cells * (s.values - 1) + 1 ≤ s.bound)
    → IsLawful (by_houses s houses)
unfolding after
by_houses-lawful s houses fine sound queue sweeps = record {
  strikes_inside = λ h K L lt inside c v on. strikes_at-inside s.values (places h) (decides h) (house h lt).monotone K L inside c v on;
  strikes_in_scope = λ h K c v lt on. strikes_at-in_scope s.values (places h) (decides h) K c v on;
  solutions_start = fine.solutions_start;
  solutions_closed = λ g grid good h c v lt on. closed_at s.values (places h) g
      (λ k lk. omega (arith, (house h lt).within k lk)) (λ d ld. grid.each_value d 0 ld)
      (decides h) ((house h lt).keeps g grid good) c v on;
  settles =
      λ e h K c v lt low on. settled_at s.values (places h) K
      (λ d u. K d u && not (strikes_at s.values (places h) (decides h) K d u))
      ((house h lt).settles e) (house h lt).different (λ d u. refl) c v low on;
  bound_of_queue = queue;
  bound_of_sweeps = sweeps;
  some_values = fine.some_values;
  few_values = fine.few_values;
  few_cells = fine.few_cells;
  start_within = fine.start_within;
  scope_within = λ h c lt on. let w = has_place-at (places h) c on in rw w.2 at ((house h lt).within w.0 w.1);
  scope_distinct = λ h j k lt lj lk e. (house h lt).different j k lj lk e;
}
  where
    places : ℕ → List ℕ
    places h = (house_of houses h).places

    decides : ℕ → Decision
    decides h = (house_of houses h).decides

    house : (h : ℕ) → h < length houses → IsSound s (house_of houses h)
    house h lt = sound h no_house lt

-- ---- the bound, by counting twice: over the cells the houses of each, over the houses the cells of each
listed_once : (xs : List ℕ) (n : ℕ) → count_below (has_place xs) n ≤ length xs
unfolding has_place
listed_once [] n = omega (arith, count_below-none (has_place []) n (λ k lt. refl))
listed_once (x ∷ xs) n =
    let here = count_below-few (eqb x) n (λ k j lk lj a b. sym (eqb-true x k a) ∙ eqb-true x j b) in
    omega (arith, here, listed_once xs n, count_below-or (eqb x) (has_place xs) (has_place (x ∷ xs)) n (λ c lt on. or_cases (eqb x c) (has_place xs c) on))

count_as_sum : (p : ℕ → Bool) (n : ℕ) → sum_below (λ c. cond (p c) 1 0) n ≡ count_below p n
unfolding sum_below count_below
count_as_sum p zero = refl
count_as_sum p (suc n) = ap (λ k. k + cond (p n) 1 0) (count_as_sum p n)

times : (k : ℕ) (f : ℕ → ℕ) (n : ℕ) → sum_below (λ c. k * f c) n ≡ k * sum_below f n
unfolding sum_below
times k f zero = omega arith
times k f (suc n) = omega (arith, times k f n)

pub counted_twice : (scope : ℕ → List ℕ) (n cells : ℕ) → sum_below (λ c. count_below (λ h. has_place (scope h) c) n) cells ≤ sum_below (λ h. length (scope h)) n
unfolding sum_below count_below
counted_twice scope zero cells = omega (arith, times 0 (λ c. 0) cells)
counted_twice scope (suc n) cells =
    let add = sum_below-add (λ c. count_below (λ h. has_place (scope h) c) n) (λ c. cond (has_place (scope n) c) 1 0) cells in
    omega (arith, add, counted_twice scope n cells, count_as_sum (has_place (scope n)) cells, listed_once (scope n) cells)

pub from_first : (f : ℕ → ℕ) (n : ℕ) → sum_below f (suc n) ≡ f 0 + sum_below (λ k. f (suc k)) n
unfolding sum_below
from_first f zero = omega arith
from_first f (suc n) = omega (arith, from_first f n)

visits_sum : (values : ℕ) (houses : List House)
    → sum_by (visits_of values) houses ≡ length houses + values * sum_below
    (λ h. length (house_of houses h).places) (length houses)
unfolding sum_below
visits_sum values [] = omega arith
visits_sum values (house ∷ houses) =
    let shift = ap (λ z. values * z) (from_first (λ h. length (house_of (house ∷ houses) h).places) (length houses)) in
    omega (arith, visits_sum values houses, shift, sum_by-cons (visits_of values) house houses)

pub bound_enough : (s : Setting) (houses : List House) → sum_by (visits_of s.values) houses ≤ s.bound
    → length houses + sum_below (λ c. (s.values - 1) * share (by_houses s houses) c) s.cells ≤ s.bound
unfolding share
bound_enough s houses enough =
    let each = sum_below-le (λ c. (s.values - 1) * share (by_houses s houses) c) (λ c. s.values * at c) s.cells
    (λ c lt. mul-le (s.values - 1) (share (by_houses s houses) c) s.values (at c) (omega arith) (omega arith)) in
    let twice = counted_twice (λ h. (house_of houses h).places) (length houses) s.cells in
    let most = mul-le s.values (sum_below at s.cells) s.values _ (omega arith) twice in
    omega (arith, each, most, times s.values at s.cells, visits_sum s.values houses)
  where
    at : ℕ → ℕ
    at c = count_below (λ h. has_place (house_of houses h).places c) (length houses)
