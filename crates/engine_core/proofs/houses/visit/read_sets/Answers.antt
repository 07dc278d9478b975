use Rattle.engine_core.proofs.Common.{arith}
use Rattle.engine_core.proofs.QueueLemmas.{scope-in}
use Rattle.engine_core.proofs.houses.visit.read_sets.Goals as goal

pub bits-requires : goal.bits-requires
bits-requires g c =
    rw (c.requires.board_of.same_cells, c.scope.ensures)
    (scope-in (g.met.R.Rules.lawful c.args.rules.now) c.loop-k.k c.requires.house_in (omega arith))
