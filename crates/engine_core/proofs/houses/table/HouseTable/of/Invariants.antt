use Rattle.engine_core.proofs.Common.{AreMarked}
use Rattle.engine_core.proofs.houses.table.HouseTable.of.Given as goal

abbrev pub invariant-loop-house : goal.invariant-loop-house
invariant-loop-house l = AreMarked l.cells l.list.closed l.house l.all
