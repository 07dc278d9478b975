-- The board of a position has no other cells and values than its puzzle.
use Rattle.engine_core.specs.Below.{IsWithin, Layout, arith, common_steps, has}
use Rattle.grid_core.proofs.BoardLemmas.{has-within}
use Rattle.engine_core.specs.RuleSystem.{RuleSystem, IsBoardOf}

pub within_of : (p : RuleSystem) (b : Layout) → IsBoardOf p b → IsWithin p.cells p.values (has b)
within_of p b of = grind (arith, common_steps, has-within)
