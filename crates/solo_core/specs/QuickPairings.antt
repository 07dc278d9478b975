-- A pairing of the first cells with values, and the values that are free yet.
use Rattle.std.specs.Prelude.{◌≡◌, ℕ, ◌+◌, ◌<◌, true, false, List, slice_index, Option, MatchOption}
use Rattle.solo_core.specs.Common.{has_bit, has_in}
use Rattle.solo_core.specs.PeeledHouses.{IsPaired}
use Rattle.solo_core.specs.declared.visits.graph.CellValueGraph.{CellValueGraph}

-- each of the first cells has a value of its own, which isn't free
pub record IsBegun (n : ℕ) (sets rest : List ℕ) (first : ℕ) (mate : ℕ → ℕ) (free : ℕ) : Type 0 where
  pub in_range : (l : ℕ) → l < first → mate l < n
  pub joined : (l : ℕ) → l < first → has_in sets (slice_index rest l) (mate l) ≡ true
  pub own : (l m : ℕ) → l < first → m < first → mate l ≡ mate m → l ≡ m
  pub taken : (l : ℕ) → l < first → has_bit free (mate l) ≡ false

-- one cell more has a value, where this value is free no more
abbrev pub PairsOneMore : ℕ → List ℕ → List ℕ → ℕ → (ℕ → ℕ) → ℕ → ℕ → Type 0
PairsOneMore n sets rest first mate free value = (value < n)
    × ((left : ℕ) → ((v : ℕ) → has_bit left v ≡ true → has_bit free v ≡ true)
    → has_bit left value ≡ false → IsBegun n sets rest (first + 1) mate left)

-- the same of some cells of a house and their values: all are paired, the first cells are, or one cell more is, where
-- a value could be given
abbrev pub AllPaired : CellValueGraph → List ℕ → Type 0
AllPaired graph mates = IsPaired graph.values graph.sets.now graph.rest.now mates

abbrev pub FirstPaired : CellValueGraph → ℕ → List ℕ → ℕ → Type 0
FirstPaired graph first mates free =
    IsBegun graph.values graph.sets.now graph.rest.now first (slice_index mates) free

abbrev pub OneMorePaired : CellValueGraph → ℕ → List ℕ → ℕ → Option ℕ → Type 0
OneMorePaired graph first mates free value = MatchOption value (Unit {0})
    (PairsOneMore graph.values graph.sets.now graph.rest.now first (slice_index mates) free)
