-- The laws that every rule set keeps to, for the rule sets of Solo.
use Rattle.std.proofs.Common.{◌≡◌, ℕ, ◌*◌, ◌<◌, Bool, true, false, List, ◌++◌, map, length, get_or, slice_index, sym, ◌∙◌, arith, All}
use Rattle.solo_core.specs.Common.{range_with_len, and_parts, ltb-true, true≢false, nat_tests, mul-le, get_or-map, length-map, All-append, All-map, IsInside, IsWithin, single, IsGrid, Solo, IsSolo, solo_n, IsLawful, Decision, IsMonotone, House, IsSettled, Keeps, IsSound, IsSetting, NamedHouse, Row, Column, Block, solo_cells, houses_of, IsSoloHouse, places_of, numbers_of, is_solo_solution, no_repeat}
use Rattle.grid_core.proofs.GridLemmas.{single-is}
use Rattle.engine_core.specs.HouseSetsLaws.{by_fillings-monotone}
use Rattle.engine_core.specs.HouseList.{AreScopesOf, all_places, listed_visits}
use Rattle.engine_core.specs.ListedLaws.{listed-scopes, visits-listed}
use Rattle.engine_core.specs.HouseRulesLaws.{by_houses-lawful, bound_enough, by_fillings-settles, by_fillings-keeps}
use Rattle.solo_core.specs.RuleSets.{start, house_by, visited_house, deciding, crossings_of, setting_of, filled_houses, single_houses, crossing_of, solo_rules_of, singles_rules, houses_rules, crossings_rules}
use Rattle.solo_core.specs.declared.houses.visit.VisitName.{VisitName}
use Rattle.solo_core.specs.Scopes.{row_scope, column_scope, crossing_scopes}
use Rattle.solo_core.specs.HouseLaws.{lists_house, listed-within, listed-different, some_numbers, each_value, all_houses, row_in, column_in}
use Rattle.solo_core.specs.SolutionLaws.{rule_from_test, house_of_solution}
use Rattle.solo_core.specs.Singles.{strikes_by_singles}
use Rattle.solo_core.specs.SinglesLaws.{singles-monotone, singles-keeps}
use Rattle.solo_core.specs.CrossingLaws.{crossing-monotone, crossing-settles, crossing-within, crossing-different, crossing-sound, HoldsEach}

-- ---- the lists of the houses' places
pub listed_in_rules : (settled : Bool) (p : Solo) (houses : List House) → AreScopesOf (solo_rules_of settled p houses) (all_places houses)
listed_in_rules settled p houses = listed-scopes (setting_of settled p houses) houses

pub bound_of_rules : (settled : Bool) (p : Solo) (houses : List House)
    → (solo_rules_of settled p houses).bound ≡ listed_visits (solo_n p) (all_places houses)
bound_of_rules settled p houses = visits-listed (solo_n p) houses

module _ (p : Solo) (ok : IsSolo p) where
  -- ---- the start
  -- a solution lies inside the start
  inside_start : (g : List ℕ) → IsGrid (solo_cells p) (solo_n p) g → is_solo_solution p g ≡ true → IsInside (single g) (start p)
  unfolding start
  inside_start g grid on c v here =
      let w = single-is g c v here in
      let lt : c < solo_cells p = let e = grid.each_cell in omega arith in
      let small : slice_index g c < solo_n p = grid.each_value c 0 w.0 in
      let given = (rule_from_test p ok g grid on).givens c lt in
      grind (arith, nat_tests, w.1)

  within_start : IsWithin (solo_cells p) (solo_n p) (start p)
  unfolding start
  within_start c v on =
      let w = and_parts _ _ on in
      let u = and_parts _ _ w.1 in
      (ltb-true c _ w.0, ltb-true v (solo_n p) u.0)

  fine : {settled : Bool} (houses : List House) → IsSetting (setting_of settled p houses)
  fine houses = record {
    some_values = some_numbers ok;
    few_values = ok.n_high;
    few_cells = let high = ok.n_high in omega (arith, mul-le (solo_n p) (solo_n p) 31 31 high high);
    start_within = within_start;
    solutions_start = inside_start;
  }

  pub rules_lawful : (settled : Bool) (houses : List House) → All (IsSound (setting_of settled p houses)) houses → IsLawful (solo_rules_of settled p houses)
  rules_lawful settled houses sound = by_houses-lawful (setting_of settled p houses) houses (fine houses) sound
      (λ _. bound_enough (setting_of settled p houses) houses (omega arith)) (λ e. absurd (true≢false e))

  -- ---- houses that decide alike
  holds_each : {g : List ℕ} → IsGrid (solo_cells p) (solo_n p) g → is_solo_solution p g ≡ true → (house : NamedHouse) → IsSoloHouse p house
      → HoldsEach (solo_n p) g (places_of p house)
  holds_each {g} grid on house is = record {
    long = (lists_house ok house is).len;
    inside = λ k lt. omega (arith, grid.each_cell, listed-within (lists_house ok house is) k lt);
    holds = house_of_solution p ok g (rule_from_test p ok g grid on) house is;
  }

  pub alike_sound : (settled : Bool) (all : List House) (decides : Decision) → IsMonotone decides
      → ((f : List ℕ) → length f ≡ solo_n p → no_repeat f ≡ true → ((k : ℕ) → k < solo_n p → get_or f k 0 < solo_n p) → Keeps decides f)
      → (settled ≡ true → IsSettled decides)
      → All (IsSound (setting_of settled p all)) (deciding decides p)
  alike_sound settled all decides monotone keeps settles = All-map (IsSound (setting_of settled p all)) (house_by decides p) (houses_of p) (λ k d lt.
      each (get_or (houses_of p) k d) (all_houses p k d lt))
    where
      each : (house : NamedHouse) → IsSoloHouse p house → IsSound (setting_of settled p all) (house_by decides p house)
      each house is = record {
        within = listed-within (lists_house ok house is);
        different = listed-different (lists_house ok house is);
        monotone = monotone;
        keeps = λ g grid on.
            let h = holds_each grid on house is in
            keeps (numbers_of p g house) (length-map (places_of p house) (slice_index g) ∙ h.long) h.holds (λ k lt.
            let lk : k < length (places_of p house) = omega (arith, h.long) in
            rw (get_or-map (slice_index g) (places_of p house) k 0 0 lk) (grid.each_value _ 0 (h.inside k lk)));
        settles = settles;
      }

  -- ---- crossings of a block and a line
  crossing_is_sound : (all : List House) {b : ℕ} (line : NamedHouse) → b < solo_n p
      → IsSoloHouse p line → IsSound (setting_of true p all) (crossing_of p b line)
  crossing_is_sound all {b} line b_in is =
      let block = lists_house ok (Block b) b_in in
      let other = lists_house ok line is in
      record {
        within = crossing-within _ _ (listed-within block) (listed-within other);
        different = crossing-different _ _ (listed-different block) (listed-different other);
        monotone = crossing-monotone _ _;
        keeps = λ g grid on. crossing-sound _ _ (solo_n p) g (λ c. grid.each_value c 0) (holds_each grid on (Block b) b_in) (holds_each grid on line is);
        settles = λ _. crossing-settles _ _;
      }

  abbrev scope_is_sound : List House → VisitName → Type 0
  scope_is_sound all scope = IsSound (setting_of true p all) (visited_house p scope)

  each_crossing : (all : List House) → All (IsSound (setting_of true p all)) (crossings_of p)
  each_crossing all = All-map (IsSound (setting_of true p all)) (visited_house p) (crossing_scopes p)
      (All-append (scope_is_sound all) (map (row_scope p) (range_with_len 0 (solo_n p * p.c))) (map (column_scope p) (range_with_len 0 (solo_n p * p.r)))
      (each_value (scope_is_sound all) (row_scope p) (solo_n p * p.c) (λ m lt. let w = row_in ok m lt in crossing_is_sound all (Row _) w.0 w.1))
      (each_value (scope_is_sound all) (column_scope p) (solo_n p * p.r) (λ m lt. let w = column_in ok m lt in crossing_is_sound all (Column _) w.0 w.1)))

  -- ---- the three rule sets
  by_fillings : (all : List House) → All (IsSound (setting_of true p all)) (filled_houses p)
  by_fillings all =
      alike_sound true all _ (by_fillings-monotone no_repeat)
      (λ f long holds small. by_fillings-keeps no_repeat f holds)
      (λ _. by_fillings-settles no_repeat)

  pub singles_sound : All (IsSound (setting_of false p (single_houses p))) (single_houses p)
  singles_sound =
      alike_sound false (single_houses p) (strikes_by_singles (solo_n p))
      (singles-monotone (solo_n p)) (singles-keeps (solo_n p)) (λ e. absurd (true≢false (sym e)))

  pub fillings_sound : All (IsSound (setting_of true p (filled_houses p))) (filled_houses p)
  fillings_sound = by_fillings (filled_houses p)

  pub crossings_sound : All (IsSound (setting_of true p (filled_houses p ++ crossings_of p))) (filled_houses p ++ crossings_of p)
  crossings_sound =
      let all = filled_houses p ++ crossings_of p in
      All-append (IsSound (setting_of true p all)) _ _ (by_fillings all) (each_crossing all)

  pub singles_lawful : IsLawful (singles_rules p)
  singles_lawful = rules_lawful false (single_houses p) singles_sound

  pub houses_lawful : IsLawful (houses_rules p)
  houses_lawful = rules_lawful true (filled_houses p) fillings_sound

  pub crossings_lawful : IsLawful (crossings_rules p)
  crossings_lawful = rules_lawful true (filled_houses p ++ crossings_of p) crossings_sound
