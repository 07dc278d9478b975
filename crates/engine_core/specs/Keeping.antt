-- What a visit keeps of the sets of a house's cells, as bits, and of the scratch that it works in.
use Rattle.std.specs.Prelude.{◌≡◌, ℕ, ◌<◌, ◌≤◌, Bool, true, false, not, List, length, slice_index, take}
use Rattle.grid_core.specs.Candidates.{Candidates}
use Rattle.engine_core.specs.RuleSystem.{Needs, RuleSystem}
use Rattle.engine_core.specs.Sets.{has_bit, IsBitsOf}

-- the bits of each are those of the set of the house's cell at its number
pub record AreSetsOf (p : RuleSystem) (h : ℕ) (K : Candidates) (sets : List ℕ) : Type 0 where
  pub as_many : length sets ≡ length (p.scope h)
  pub bits : (k : ℕ) → k < length (p.scope h)
      → IsBitsOf (K (slice_index (p.scope h) k)) p.values (slice_index sets k)

-- the same at the head of a longer list
abbrev pub AreHeadSets : RuleSystem → ℕ → Candidates → List ℕ → Type 0
AreHeadSets p h K sets = AreSetsOf p h K (take (length (p.scope h)) sets)

-- those of some board
pub record AreSets (p : RuleSystem) (h : ℕ) (sets : List ℕ) : Type 0 where
  pub board : Candidates
  pub are : AreSetsOf p h board sets

-- nothing is struck from the house's cells, or else a value that one of them has stays exactly where its bit is kept
pub record IsKept (p : RuleSystem) (h : ℕ) (K : Candidates) (may_strike : Bool)
    (kept : List ℕ) : Type 0 where
  pub none : may_strike ≡ false → (k v : ℕ) → k < length (p.scope h) → v < p.values
      → K (slice_index (p.scope h) k) v ≡ true
      → p.strikes h K (slice_index (p.scope h) k) v ≡ false
  pub bits : may_strike ≡ true → (k v : ℕ) → k < length (p.scope h) → v < p.values
      → K (slice_index (p.scope h) k) v ≡ true
      → has_bit (slice_index kept k) v ≡ not (p.strikes h K (slice_index (p.scope h) k) v)

-- of whichever board the sets are, this is kept of them
abbrev pub IsKeptOf : RuleSystem → ℕ → List ℕ → Bool → List ℕ → Type 0
IsKeptOf p h sets may_strike kept = (K : Candidates) → AreSetsOf p h K sets → IsKept p h K may_strike kept

-- there is room for the sets of the house's cells
abbrev pub HasSetRoom : RuleSystem → ℕ → List ℕ → Type 0
HasSetRoom p h sets = length (p.scope h) ≤ length sets

-- at the head of the lists: the sets of the house's cells, and what is kept of them
pub record IsFiltered (p : RuleSystem) (h : ℕ) (K : Candidates) (may_strike : Bool)
    (sets kept : List ℕ) : Type 0 where
  pub sets_long : HasSetRoom p h sets
  pub kept_long : HasSetRoom p h kept
  pub sets_are : AreHeadSets p h K sets
  pub kept_are : IsKept p h K may_strike (take (length (p.scope h)) kept)

-- what serves each need that the first served
abbrev pub StillServes : {S : Type 0} → (S → Needs → Type 0) → S → S → Type 0
StillServes serves from to = (needs : Needs) → serves from needs → serves to needs
