use Rattle.grid_core.proofs.Common.{arith, length, slice_get_past, steps, sym, ◌≡◌}
use Rattle.grid_core.proofs.RegionLemmas.{steps-none, steps-some, steps-at}
use Rattle.grid_core.proofs.regions.beside.Goals as goal
use Rattle.grid_core.proofs.regions.beside.Goals.{in-Some+else-left-eq0, in_default}

pub loop-direction-init : goal.loop-direction-init
unfolding steps
loop-direction-init c = omega arith

pub returns-then-left-eq0-clause-cell : goal.returns-then-left-eq0-clause-cell
returns-then-left-eq0-clause-cell c =
    let k : length (steps c.args.size c.args.place c.loop-direction.direction) ≡ c.args.k = let i = c.loop-direction.invariant in omega arith in
    sym (rw k at (steps-at c.args.size c.args.place 4 c.loop-direction.direction c.in-Some.cell (omega arith) c.in-Some.ensures.cell))

pub loop-direction-preserved : goal.loop-direction-preserved
loop-direction-preserved c = grind (arith, in-Some+else-left-eq0, steps-some, in_default, steps-none, c.loop-direction.invariant, c.step.ensures.cell)

pub returns-clause-cell : goal.returns-clause-cell
returns-clause-cell c = grind (arith, slice_get_past, c.loop-direction.invariant)
