-- Sweeps of all houses on planes. No public contract uses these words.
use Rattle.std.specs.Prelude.{◌≡◌, Bool, true, false}
use Rattle.fields_core.specs.Below.{Candidates, IsDead, IsFurther, Layers, RuleSystem, planes_have, range_with_len}
use Rattle.engine_core.specs.Closing.{replay}
use Rattle.fields_core.specs.Parts.{ArePlanesAlive}

-- the board after a sweep: each house is visited once, in ascending order
abbrev pub swept_by : RuleSystem → Candidates → Candidates
swept_by p K = replay p K (range_with_len 0 p.houses)

-- a sweep took the planes from the first to the second; or it leaves a cell without a value
pub record IsSweep (p : RuleSystem) (from to : Layers) (fills : Bool) : Type 0 where
  pub left : fills ≡ true → planes_have to ≡ swept_by p (planes_have from)
  pub dies : fills ≡ false → IsDead p (swept_by p (planes_have from))
  pub alive : ArePlanesAlive to
  pub further : IsFurther from to
