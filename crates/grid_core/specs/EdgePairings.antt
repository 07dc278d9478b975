-- Pairings and short sets of edges.
use Rattle.std.specs.Prelude.{ℕ, List}
use Rattle.grid_core.specs.Pairings.{IsPairing, IsShortSet}
use Rattle.grid_core.specs.declared.pairing.Edges as edges

-- each left has a joined right of its own, its mate
abbrev pub IsPairingOf : {E : Type 0} → edges.Ghosts E → E → List ℕ → Type 0
IsPairingOf of e mates = IsPairing (of.joins e) (of.left_count e) (of.right_count e) mates

-- different lefts, ascending, which are more than the rights that are joined to one of them
abbrev pub IsShortSetOf : {E : Type 0} → edges.Ghosts E → E → List ℕ → Type 0
IsShortSetOf of e lefts = IsShortSet (of.joins e) (of.left_count e) (of.right_count e) lefts
