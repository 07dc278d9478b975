-- What is wrong with a grid of Solo: the first of these tests that fails, the givens by place before the houses in their
-- order.
use Rattle.std.specs.Prelude.{◌≡◌, ◌≢◌, ℕ, ◌+◌, ◌<◌, ◌≤◌, true, List, [], ◌∷◌, ◌++◌, map, slice_index, Option}
use Rattle.gameid_core.specs.FirstFailed.{IsAnswerOfCheck, tests_of}
use Rattle.solo_core.specs.Common.{Solo, solo_cells, houses_of, lies_in_house, IsSoloSolution, NamedHouse, Row, Column, Block, Diagonal}
use Rattle.solo_core.specs.declared.fault.SoloFault.{SoloFault}
use Rattle.solo_core.specs.declared.fault.SoloFault.TheVariants.{Given, Row as BadRow, Column as BadColumn, Block as BadBlock, Diagonal as BadDiagonal}

-- two different places of the house hold the same
abbrev pub Repeats : Solo → List ℕ → NamedHouse → Type 0
Repeats p g house =
    (j : ℕ) × (k : ℕ) × (j < solo_cells p) × (k < solo_cells p) × (j ≡ k → ⊥)
    × (lies_in_house p house j ≡ true) × (lies_in_house p house k ≡ true) × (slice_index g j ≡ slice_index g k)

-- a given that doesn't stand; a house that holds a number twice
abbrev pub FailsSolo : Solo → List ℕ → SoloFault → Type 0
FailsSolo p g (Given place) =
    (1 ≤ slice_index p.givens place) × (slice_index g place + 1 ≢ slice_index p.givens place)
FailsSolo p g (BadRow y) = Repeats p g (Row y)
FailsSolo p g (BadColumn i) = Repeats p g (Column i)
FailsSolo p g (BadBlock b) = Repeats p g (Block b)
FailsSolo p g (BadDiagonal d) = Repeats p g (Diagonal d)

-- the fault of a house
abbrev pub fault_of : NamedHouse → SoloFault
fault_of (Row y) = BadRow y
fault_of (Column i) = BadColumn i
fault_of (Block b) = BadBlock b
fault_of (Diagonal d) = BadDiagonal d

abbrev pub given_tests : Solo → List SoloFault
given_tests p = tests_of ((Given, solo_cells p) ∷ [])

abbrev pub house_tests : Solo → List SoloFault
house_tests p = map fault_of (houses_of p)

abbrev pub IsSoloFault : Solo → List ℕ → Option SoloFault → Type 0
IsSoloFault p g fault =
    IsAnswerOfCheck (IsSoloSolution p g) (FailsSolo p g) (given_tests p ++ house_tests p) fault
