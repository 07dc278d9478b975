use Rattle.fields_core.proofs.Common.{◌-◌, ◌<◌, ◌≤◌}
use Rattle.fields_core.proofs.LightReach.{IsLive}
use Rattle.fields_core.proofs.planes.light_up.tables.LightTables.below.Given as goal

abbrev pub invariant-loop-end : goal.invariant-loop-end
invariant-loop-end g l = record {
  down : l.high < l.end;
  within : l.end ≤ l.h;
  live : IsLive l.puzzle (g.W.Word.bits l.fn.columns) l.high l.end (g.W.Word.bits l.live);
}

abbrev pub decreases-loop-end : goal.decreases-loop-end
decreases-loop-end g l = l.h - l.end
