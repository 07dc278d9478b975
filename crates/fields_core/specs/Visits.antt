-- Visits of count houses on planes, one after another.
use Rattle.std.specs.Prelude.{◌≡◌, ℕ, ◌<◌, Bool, true, false, not, ◌&&◌, ◌==◌, List, [], ◌∷◌}
use Rattle.fields_core.specs.Below.{Candidates, IsFurther, Layers, plane_cells, planes_have}
use Rattle.fields_core.specs.CountHouse.{CountHouse, after_house}
use Rattle.fields_core.specs.Parts.{ArePlanesAlive}

-- the board after visits of the houses, one after another
unfoldable pub after_visits : List CountHouse → Candidates → Candidates
after_visits [] K = K
after_visits (house ∷ houses) K = after_visits houses (after_house house K)

-- visits of the houses took the planes from the first to the second; or these visits leave a cell without a value
pub record AreVisited (houses : List CountHouse) (from to : Layers) (fills : Bool)
    : Type 0 where
  pub left : fills ≡ true → planes_have to ≡ after_visits houses (planes_have from)
  pub dies : fills ≡ false → (c : ℕ) × (c < plane_cells from)
      × ((v : ℕ) → v < 2 → after_visits houses (planes_have from) c v ≡ false)
  pub alive : ArePlanesAlive to
  pub further : IsFurther from to

-- visits of the houses take nothing
abbrev pub AreIdle : List CountHouse → Candidates → Type 0
AreIdle houses K = after_visits houses K ≡ K

-- the board without 0 in the cells that pass
unfoldable pub without_zeros : (ℕ → Bool) → Candidates → Candidates
without_zeros passes K c v = K c v && not ((v == 0) && passes c)
