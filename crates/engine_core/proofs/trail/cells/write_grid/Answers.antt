use Rattle.engine_core.proofs.Common.{arith, grid_of, has, is_full-count, length-set, refl, ◌∙◌}
use Rattle.engine_core.proofs.JudgeLemmas.{grid-more}
use Rattle.engine_core.proofs.SetLemmas.{bits-are, least-in}
use Rattle.engine_core.proofs.trail.cells.write_grid.Goals as goal

pub loop-cell-init : goal.loop-cell-init
unfolding grid_of
loop-cell-init c = record { long = c.requires.long; same = refl }

pub loop-cell-preserved : goal.loop-cell-preserved
loop-cell-preserved c =
    let i = c.loop-cell.invariant in
    let e = c.set.ensures in
    let one = is_full-count c.args.cells _ _ c.loop-cell.cell c.requires.full (omega arith) in
    let least = least-in (bits-are c.args.board.now c.loop-cell.cell c.bits.ensures.small c.bits.ensures.same) c.bits.type_inv (omega arith) in
    record {
      long = rw e (length-set c.loop-cell.grid c.loop-cell.cell _ ∙ i.long);
      same =
          rw e (grid-more c.loop-cell.grid c.loop-cell.cell (has c.args.board.now) i.long
          (omega arith) c.requires.full i.same least.0 least.1);
    }
