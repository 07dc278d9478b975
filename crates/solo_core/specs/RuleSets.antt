-- The rule sets of Solo. They have the same start and the same solutions; singles and houses strike differently in the
-- same houses, and crossings have further ones.
use Rattle.std.specs.Prelude.{◌≡◌, ℕ, ◌<◌, ◌+◌, Bool, true, false, ◌&&◌, ◌||◌, ◌==◌, nat_lt, List, ◌++◌, map, slice_index, sum_by}
use Rattle.solo_core.specs.Common.{Candidates, Solo, solo_n, RuleSystem, strikes_by_fillings, Decision, has_bit, House, Setting, by_houses, house_of, visits_of, NamedHouse, Block, solo_cells, houses_of, places_of, no_repeat, is_solo_solution}
use Rattle.solo_core.specs.declared.houses.visit.VisitName.{VisitName}
use Rattle.solo_core.specs.declared.houses.visit.VisitName.TheVariants as scope
use Rattle.solo_core.specs.Crossing.{crossing, outside, is_shared}
use Rattle.solo_core.specs.Scopes.{crossing_scopes}
use Rattle.solo_core.specs.Singles.{strikes_by_singles}

-- where a search starts: a cell with a given has it alone, every other cell has every number
unfoldable pub start : Solo → Candidates
start p place v =
    nat_lt place (solo_cells p) && (nat_lt v (solo_n p)
    && ((slice_index p.givens place == 0) || (v + 1 == slice_index p.givens place)))

-- the rules of these houses; a closing has at most one visit for each house, and one more for each value of its cells
abbrev pub setting_of : Bool → Solo → List House → Setting
setting_of settled p houses = record {
  cells = solo_cells p;
  values = solo_n p;
  bound = sum_by (visits_of (solo_n p)) houses;
  visits_settle = settled;
  by_queue = true;
  start = start p;
  is_solution = is_solo_solution p;
}

abbrev pub solo_rules_of : Bool → Solo → List House → RuleSystem
solo_rules_of settled p houses = by_houses (setting_of settled p houses) houses

-- a house of the puzzle with this decision, and all of them
abbrev pub house_by : Decision → Solo → NamedHouse → House
house_by decides p house = record { places = places_of p house; decides = decides }

abbrev pub deciding : Decision → Solo → List House
deciding decides p = map (house_by decides p) (houses_of p)

-- a house strikes by its single values and places
abbrev pub single_houses : Solo → List House
single_houses p = deciding (strikes_by_singles (solo_n p)) p

abbrev pub singles_rules : Solo → RuleSystem
singles_rules p = solo_rules_of false p (single_houses p)

-- a house strikes what no filling of it without repeat allows
abbrev pub filled_houses : Solo → List House
filled_houses p = deciding (strikes_by_fillings no_repeat) p

abbrev pub houses_rules : Solo → RuleSystem
houses_rules p = solo_rules_of true p (filled_houses p)

-- a block and a line that it meets: what they strike, and the line's places outside the block
abbrev pub crossing_of : Solo → ℕ → NamedHouse → House
crossing_of p block line = crossing (places_of p (Block block)) (places_of p line)

abbrev pub rest_of_line : Solo → ℕ → NamedHouse → List ℕ
rest_of_line p block line = outside (places_of p (Block block)) (places_of p line)

-- what is visited as a house, and by which decision
abbrev pub visited_house : Solo → VisitName → House
visited_house p (scope.House house) = house_by (strikes_by_fillings no_repeat) p house
visited_house p (scope.Crossing block line) = crossing_of p block line

-- crossings strike too
abbrev pub crossings_of : Solo → List House
crossings_of p = map (visited_house p) (crossing_scopes p)

-- what the crossing with the number decides
abbrev pub crossing_decides : Solo → ℕ → Decision
crossing_decides p number = (house_of (crossings_of p) number).decides

abbrev pub crossings_rules : Solo → RuleSystem
crossings_rules p = solo_rules_of true p (filled_houses p ++ crossings_of p)

-- the bits are those of the block's cells that are the line's too
abbrev pub AreShared : Solo → ℕ → NamedHouse → ℕ → Type 0
AreShared p block line bits = (k : ℕ) → k < solo_n p → has_bit bits k
    ≡ is_shared (places_of p (Block block)) (places_of p line) k
