use Rattle.grid_core.proofs.Common.{false, true}
use Rattle.grid_core.proofs.PlaneLemmas.{AreNoted}
use Rattle.grid_core.proofs.planes.Planes.lost.Given as goal

abbrev pub invariant-loop-k : goal.invariant-loop-k
invariant-loop-k g l = record {
  zeros : AreNoted g.W.Word.bits l.self.takings l.fn.len l.k true l.zeros;
  ones : AreNoted g.W.Word.bits l.self.takings l.fn.len l.k false l.ones;
}
