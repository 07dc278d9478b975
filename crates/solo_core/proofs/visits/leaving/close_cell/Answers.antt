use Rattle.solo_core.proofs.Common.{arith, length-set, sym, ◌∙◌}
use Rattle.solo_core.proofs.OpenBoardLemmas.{stay-more}
use Rattle.solo_core.proofs.visits.leaving.close_cell.Goals as goal

pub loop-i-preserved : goal.loop-i-preserved
loop-i-preserved c =
    let i = c.loop-i.invariant in
    let s = c.requires c.loop-i.i (omega arith) in
    record {
      as_many = length-set c.loop-i.houses c.from-house.result c.close.result ∙ i.as_many;
      stay = stay-more c.args.houses.now c.loop-i.houses c.args.spots.now c.args.set c.close.result i.stay (omega arith)
          (omega (arith, s.0, i.as_many, c.from-house.ensures)) (sym c.from-house.ensures) (sym c.from-cell.ensures) c.close.ensures;
    }
