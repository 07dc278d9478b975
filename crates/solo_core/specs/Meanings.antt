-- What the laws say of the rules of a puzzle of Solo.
use Rattle.std.specs.Prelude.{◌≡◌, ℕ, ◌+◌, ◌-◌, ◌*◌, ◌<◌, ◌↔◌, IsTrue, true, List, ◌++◌, length, slice_index_or}
use Rattle.solo_core.specs.Common.{Candidates, IsGrid, Solo, solo_n, RuleSystem, has_place, house_of, NamedHouse, solo_cells, houses_of, lies_in_house, places_of, IsSoloSolution}
use Rattle.solo_core.specs.declared.houses.visit.VisitName.{VisitName}
use Rattle.solo_core.specs.declared.houses.visit.VisitName.TheVariants.{House}
use Rattle.solo_core.specs.RuleSets.{filled_houses, crossings_of, visited_house}
use Rattle.solo_core.specs.Scopes.{scopes_of}

-- the grids that the rules accept are the solutions of the puzzle
abbrev pub AcceptsSoloSolutions : Solo → RuleSystem → Type 0
AcceptsSoloSolutions p rules = (g : List ℕ) → IsGrid (solo_cells p) (solo_n p) g
    → (IsTrue (rules.is_solution g)) ↔ IsSoloSolution p g

-- what a house of the first rules strikes, the house of the second with its number strikes too
abbrev pub StrikesAsMuch : RuleSystem → RuleSystem → Type 0
StrikesAsMuch less more = (h : ℕ) (board : Candidates) (place value : ℕ) → h < less.houses
    → less.strikes h board place value ≡ true
    → (h < more.houses) × (more.strikes h board place value ≡ true)

-- the house's list has exactly the places that lie in the house
abbrev pub ListsItsPlaces : Solo → NamedHouse → Type 0
ListsItsPlaces p house = (place : ℕ) → place < solo_cells p
    → (IsTrue (has_place (places_of p house) place)) ↔ (IsTrue (lies_in_house p house place))

-- the first scopes are the houses, and each scope is visited as its number says
abbrev pub HousesComeFirst : Solo → Type 0
HousesComeFirst p = (h : ℕ) (scope : VisitName) (house : NamedHouse) → h < length (houses_of p)
    → slice_index_or (scopes_of p) h scope ≡ House (slice_index_or (houses_of p) h house)

abbrev pub AreNamedByScopes : Solo → Type 0
AreNamedByScopes p = (h : ℕ) (scope : VisitName) → h < length (scopes_of p)
    → house_of (filled_houses p ++ crossings_of p) h
    ≡ visited_house p (slice_index_or (scopes_of p) h scope)

-- the most visits of a closing: one of each house, and one more for each number of each of its cells; and so for crossings,
-- of which those with rows have 2n - r cells, and those with columns 2n - c
abbrev pub house_visits : Solo → ℕ
house_visits p = length (houses_of p) + length (houses_of p) * (solo_n p * solo_n p)

abbrev pub crossing_visits : Solo → ℕ
crossing_visits p = solo_n p * p.c * (1 + (2 * solo_n p - p.r) * solo_n p)
    + solo_n p * p.r * (1 + (2 * solo_n p - p.c) * solo_n p)

abbrev pub all_visits : Solo → ℕ
all_visits p = house_visits p + crossing_visits p
