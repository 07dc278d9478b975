-- What is wrong with a grid of Light Up: the first of these tests that fails, the lowest place of each kind first.
use Rattle.std.specs.Prelude.{◌≡◌, ◌≢◌, ℕ, true, false, List, [], ◌∷◌, Option, slice_index_or}
use Rattle.fields_core.specs.Below.{IsAnswerOfCheck, Light, tests_of}
use Rattle.gameid_core.specs.declared.light_up.cell.LightCell.TheVariants.{Black as BlackCell, Numbered}
use Rattle.fields_core.specs.Light.{light_cells, white, bulb, bulbs_beside}
use Rattle.fields_core.specs.LightSolutions.{IsLightSolution, SeesBulb}
use Rattle.fields_core.specs.declared.light_up.fault.LightFault.{LightFault}
use Rattle.fields_core.specs.declared.light_up.fault.LightFault.TheVariants.{Black, Number, Seen, Dark}

-- a bulb on a black cell; a number that is not met; a bulb that sees a bulb; a white cell that neither holds a bulb nor
-- sees one
abbrev pub FailsLight : Light → List ℕ → LightFault → Type 0
FailsLight p g (Black c) = (bulb g c ≡ true) × (white p c ≡ false)
FailsLight p g (Number c) =
    (n : ℕ) × (slice_index_or p.cells c BlackCell ≡ Numbered n) × (bulbs_beside p g c ≢ n)
FailsLight p g (Seen c) = (bulb g c ≡ true) × SeesBulb p g c
FailsLight p g (Dark c) = (white p c ≡ true) × (bulb g c ≡ false) × (SeesBulb p g c → ⊥)

abbrev pub light_tests : Light → List LightFault
light_tests p =
    tests_of ((Black, light_cells p) ∷ (Number, light_cells p) ∷ (Seen, light_cells p)
    ∷ (Dark, light_cells p) ∷ [])

abbrev pub IsLightFault : Light → List ℕ → Option LightFault → Type 0
IsLightFault p g fault =
    IsAnswerOfCheck (IsLightSolution p g) (FailsLight p g) (light_tests p) fault
