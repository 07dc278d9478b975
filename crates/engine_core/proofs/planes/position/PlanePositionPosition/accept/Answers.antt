use Rattle.engine_core.proofs.Common.{grid_of, layers_in, ◌≡◌}
use Rattle.grid_core.specs.Planes.{plane_cells, planes_have}
use Rattle.engine_core.proofs.PlaneSteps.{walks-closed, walks-long}
use Rattle.engine_core.proofs.planes.position.PlanePositionPosition.accept.Goals as goal
use Rattle.engine_core.proofs.planes.position.PlanePositionPosition.accept.Goals.{Joined-self, in-Short, in-Long}

-- the grid that was written
written : (g : _) (c : Joined-self g) → c.match-self.grid ≡ grid_of (plane_cells (layers_in c.self.inside.planes)) 2 (planes_have (layers_in c.self.inside.planes))
written g c = elim c.match-self.branch [
  | in-Short w ↦ rw (w.in-Short.is, w.grid-is) w.write_grid.ensures
  | in-Long w ↦ rw (w.in-Long.is, w.grid-is) w.write_grid-in-Long.ensures
]

pub completes-requires-clause-closed : goal.completes-requires-clause-closed
completes-requires-clause-closed g c =
    let r = rw (← c.self.view_is) at c.requires in
    let rules = c.args.rules.now in
    walks-closed _ r.walks (g.met.R.BinaryRules.two rules) (written g (goal.at.completes-requires-clause-closed g c).Joined-self) (g.met.R.Rules.lawful rules) r.closed r.full

pub completes-requires-clause-served : goal.completes-requires-clause-served
completes-requires-clause-served g c =
    let r = rw (← c.self.view_is) at c.requires in
    g.met.R.Rules.serves_smaller _ _ _ r.walks.fits c.self.invariant.1

pub returns-clause-long : goal.returns-clause-long
returns-clause-long g c =
    let r = rw (← c.self.view_is) at c.requires in
    walks-long _ r.walks (g.met.R.BinaryRules.two c.args.rules.now) (written g (goal.at.returns-clause-long g c).Joined-self)
