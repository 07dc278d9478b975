use Rattle.fields_core.proofs.Common.{◌+◌, ◌≤◌}
use Rattle.fields_core.proofs.LightReach.{IsLive}
use Rattle.fields_core.proofs.planes.light_up.tables.LightTables.above.Given as goal

abbrev pub invariant-loop-first : goal.invariant-loop-first
invariant-loop-first g l = record {
  up : l.first ≤ l.low;
  live : IsLive l.puzzle (g.W.Word.bits l.fn.columns) l.first (l.low + 1) (g.W.Word.bits l.live);
}

abbrev pub decreases-loop-first : goal.decreases-loop-first
decreases-loop-first g l = l.first
