use Rattle.grid_core.proofs.Common.{◌∙◌}
use Rattle.grid_core.proofs.PlaneSteps.{kept-only}
use Rattle.grid_core.proofs.planes.Planes.assign.Goals as goal

pub returns-clause-left : goal.returns-clause-left
returns-clause-left g c =
    rw c.split-y.ensures.row at c.take.ensures.left ∙ kept-only c.args.self.now c.args.place c.args.value
    (g.W.Word.bits c.one.result) c.requires.value_in (rw c.split-y.ensures.column at c.one.ensures)
