use Rattle.solo_core.specs.PeeledHouses.{AreAllCounts, AreSettledCells, IsPeeled, IsRest, KeepsOthers}
use Rattle.solo_core.proofs.visits.peel.peel.Given as goal

abbrev pub invariant-loop-turn : goal.invariant-loop-turn
invariant-loop-turn l = record {
  peeled : IsPeeled l.values l.fn.sets l.sets;
  counts : AreAllCounts l.sets l.counts.some l.counts.single l.counts.shared;
  settled : AreSettledCells l.sets l.rest l.settled;
  rest : IsRest l.values l.sets l.rest;
  others : KeepsOthers l.rest l.fn.sets l.sets;
}
