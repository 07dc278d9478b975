-- A rule set of count houses is lawful, by the laws of fillings, and begins alive.
use Rattle.std.proofs.lemmas.Grind.{common_steps}
use Rattle.std.proofs.Common.{◌≡◌, ℕ, ◌<◌, Bool, true, not, ◌&&◌, List, slice_index, refl, sym, arith}
use Rattle.std.proofs.lemmas.Bool.{cases_Bool, true≢false, and_parts, and_from, lt-ltb, ltb-true}
use Rattle.fields_core.specs.Below.{Decision, IsAlive, IsGrid, IsInside, IsLawful, IsWithin, after, all_of, single, strikes_at, strikes_by_fillings}
use Rattle.grid_core.proofs.BoardLemmas.{count_below-pos, is_dead-each}
use Rattle.grid_core.proofs.GridLemmas.{single-is}
use Rattle.engine_core.specs.PlaceLaws.{has_place-here}
use Rattle.engine_core.specs.HouseSetsLaws.{strikes_at-inside, strikes_at-in_scope, by_fillings-monotone, by_fillings-settled, by_fillings-closed}
use Rattle.fields_core.specs.Count.{counts_between}
use Rattle.fields_core.specs.CountHouse.{CountHouse, CountPuzzle, count_house_of, meets_house, rules_of, strikes_of, start_of, count_puzzle, IsCounting}

start-within : {cells : ℕ} (blocked : ℕ → Bool) → IsWithin cells 2 (start_of cells blocked)
unfolding start_of all_of
start-within {cells} blocked c v on = grind (arith, common_steps, and_parts, ltb-true)

-- a grid that leaves blocked cells at 0 lies inside the start
start-single : {cells : ℕ} (blocked : ℕ → Bool) (g : List ℕ) → IsGrid cells 2 g
    → ((c : ℕ) → c < cells → blocked c ≡ true → slice_index g c ≡ 0)
    → IsInside (single g) (start_of cells blocked)
unfolding start_of all_of
start-single {cells} blocked g grid zero_at c v on = grind (arith, common_steps, single-is, and_from, lt-ltb)

-- each cell can be 0
pub count-alive : (p : CountPuzzle) → IsAlive (rules_of p) (rules_of p).start
unfolding start_of all_of
count-alive p = is_dead-each p.cells 2 (rules_of p).start (λ c lt.
    count_below-pos ((rules_of p).start c) 2 0 (omega arith) (rw (lt-ltb c p.cells lt) (grind (arith, common_steps, cases_Bool (p.blocked c)))))

pub count-lawful : (cells : ℕ) (blocked : ℕ → Bool) (houses : List CountHouse)
    (is_solution : List ℕ → Bool) → IsCounting cells blocked houses is_solution
    → IsLawful (count_puzzle cells blocked houses is_solution)
unfolding after strikes_of meets_house
count-lawful cells blocked houses is_solution counting = record {
  strikes_inside = λ h K L lt inside c v struck.
      strikes_at-inside 2 (places h) (decides h) (by_fillings-monotone (holds h)) K L inside c v struck;
  strikes_in_scope = λ h K c v lt struck. strikes_at-in_scope 2 (places h) (decides h) K c v struck;
  solutions_start = λ g grid good.
      start-single blocked g grid (counting.blocked_zero g grid good);
  solutions_closed = λ g grid good h c v lt on. by_fillings-closed 2 (places h) (holds h) g
      (λ k less. omega (arith, grid.each_cell, (counting.are_houses h lt).within (slice_index (places h) k) (has_place-here (places h) k less)))
      (λ d less. grid.each_value d 0 less) (counting.meets_each g grid good h lt) c v on;
  settles = λ settled h K c v lt _ on. by_fillings-settled 2 (places h) (holds h) K
      (λ d u. K d u && not (strikes_at 2 (places h) (decides h) K d u))
      (counting.are_houses h lt).different (λ d u. refl) c v on;
  bound_of_queue = λ e. absurd (true≢false (sym e));
  bound_of_sweeps = λ e. omega arith;
  some_values = omega arith;
  few_values = omega arith;
  few_cells = counting.few_cells;
  start_within = start-within blocked;
  scope_within = λ h c lt member. (counting.are_houses h lt).within c member;
  scope_distinct = λ h j k lt lj lk e. (counting.are_houses h lt).different j k lj lk e;
}
  where
    places : ℕ → List ℕ
    places h = (count_house_of houses h).places

    holds : ℕ → List ℕ → Bool
    holds h = counts_between (count_house_of houses h).least (count_house_of houses h).most

    decides : ℕ → Decision
    decides h = strikes_by_fillings (holds h)
