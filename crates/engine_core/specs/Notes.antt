-- What rules of listed houses may keep beside a board, so that a visit need not look at each cell of a house.
use Rattle.std.specs.Prelude.{◌≡◌, ℕ, ◌<◌, ◌==◌, ◌≤◌, List, length, not, slice_index, take, true}
use Rattle.grid_core.specs.Candidates.{Candidates}
use Rattle.engine_core.specs.RuleSystem.{RuleSystem}
use Rattle.engine_core.specs.Sets.{has_bit}
use Rattle.engine_core.specs.Trail.{AreKeptOutside, AreRising}

-- the cell has the value v and no other
abbrev pub HasOnly : Candidates → ℕ → ℕ → Type 0
HasOnly K c v = (w : ℕ) → K c w ≡ (w == v)

-- the cells that have one value alone in the first board have it alone in the second
abbrev pub KeepsOnly : Candidates → Candidates → Type 0
KeepsOnly K L = (c v : ℕ) → HasOnly K c v → HasOnly L c v

-- the boards differ in that cell alone
abbrev pub SameBut : ℕ → Candidates → Candidates → Type 0
SameBut place K L = (c v : ℕ) → (c ≡ place → ⊥) → L c v ≡ K c v

-- of the house's k-th cell a visit keeps the values that have a bit
abbrev pub IsKeptAt : RuleSystem → ℕ → Candidates → List ℕ → ℕ → Type 0
IsKeptAt p h K left k = (v : ℕ) → v < p.values → K (slice_index (p.scope h) k) v ≡ true
    → has_bit (slice_index left k) v ≡ not (p.strikes h K (slice_index (p.scope h) k) v)

-- a visit of h strikes from these of its cells alone, by their numbers; what is kept of their sets has these bits
pub record AreToStrike (p : RuleSystem) (h : ℕ) (K : Candidates) (numbers left : List ℕ)
    : Type 0 where
  pub rising : AreRising (length (p.scope h)) numbers
  pub long : length (p.scope h) ≤ length left
  pub kept : (t : ℕ) → t < length numbers → IsKeptAt p h K left (slice_index numbers t)
  pub others : AreKeptOutside p h K numbers

-- the same of the first so many numbers of a list
pub record IsMarkedOut (p : RuleSystem) (h : ℕ) (K : Candidates) (count : ℕ)
    (numbers left : List ℕ) : Type 0 where
  pub few : count ≤ length numbers
  pub strike : AreToStrike p h K (take count numbers) left
