-- Puzzles of count houses that are closed on planes.
use Rattle.fields_core.specs.Below.{Extent, FitsIn, Layers, Needs, RuleSystem, planes_have, needs_of}
use Rattle.engine_core.specs.Needs.{needs_in}
use Rattle.engine_core.specs.PlaneNotes.{IsSuited}
use Rattle.engine_core.specs.Position.{IsTaken}
use Rattle.engine_core.specs.declared.mode.Closing.{Closing}
use Rattle.engine_core.specs.declared.needs.Needs.{Needs as Counted}
use Rattle.fields_core.specs.CountHouse.{CountPuzzle, rules_of}

-- where memory serves the rules, and words of 64 places all puzzles of such sizes, they are long enough for this grid
abbrev pub AreShortEnough : (Needs → Type 0) → RuleSystem → Extent → Type 0
AreShortEnough all_short rules size = (had : Counted) → FitsIn (needs_of rules) (needs_in had)
    → all_short (needs_in had) → IsSuited size 64

-- a closing by the rules of what is counted, from planes to planes
abbrev pub IsClosedByCounts : CountPuzzle → Layers → Layers → Closing → Type 0
IsClosedByCounts p from to closing = IsTaken (rules_of p) (planes_have from) (planes_have to) closing
