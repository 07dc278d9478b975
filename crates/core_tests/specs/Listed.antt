-- A small rule set for the tests, by lists of houses: three cells of two values, and no two neighbours equal. Its houses have the
-- neighbours, and strike nothing: that they differ is said by the test of a grid alone.
use Rattle.std.specs.Prelude.{◌+◌, ◌&&◌, ◌==◌, ℕ, Bool, true, false, not, List, [], ◌∷◌, slice_index}
use Rattle.grid_core.specs.Candidates.{all_of}
use Rattle.engine_core.specs.HouseList.{listed_visits, scope_of}
use Rattle.engine_core.specs.RuleSystem.{RuleSystem}

abbrev pub pairs : List (List ℕ)
pairs = (0 ∷ 1 ∷ []) ∷ (1 ∷ 2 ∷ []) ∷ []

abbrev pub are_apart : List ℕ → Bool
are_apart g = not (slice_index g 0 == slice_index g 1) && not (slice_index g 1 == slice_index g 2)

abbrev pub listed_rules : RuleSystem
listed_rules = record {
  cells = 3;
  values = 2;
  houses = 2;
  bound = listed_visits 2 pairs;
  visits_settle = true;
  by_queue = true;
  scope = scope_of pairs;
  start = all_of 3 2;
  strikes = λ h K c v. false;
  is_solution = are_apart;
}
