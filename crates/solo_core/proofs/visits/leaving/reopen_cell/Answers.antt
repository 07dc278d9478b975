use Rattle.solo_core.proofs.Common.{arith, length-set, sym, ◌<◌, length, ◌∙◌}
use Rattle.solo_core.proofs.OpenBoardLemmas.{here-more, stay-more}
use Rattle.solo_core.proofs.visits.leaving.reopen_cell.Goals as goal

pub loop-i-preserved : goal.loop-i-preserved
loop-i-preserved c =
    let i = c.loop-i.invariant in
    let s = c.requires c.loop-i.i (omega arith) in
    let lh : c.from-house.result < length c.loop-i.houses = omega (arith, s.0, i.as_many, c.from-house.ensures) in
    record {
      as_many = length-set c.loop-i.houses c.from-house.result c.reopen.result ∙ i.as_many;
      stay = stay-more c.args.houses.now c.loop-i.houses c.args.spots.now c.args.set c.reopen.result i.stay (omega arith)
          lh (sym c.from-house.ensures) (sym c.from-cell.ensures) c.reopen.ensures.stays;
      here = here-more c.loop-i.houses c.args.spots.now c.reopen.result lh (sym c.from-house.ensures) (sym c.from-cell.ensures)
          c.reopen.ensures.here c.reopen.ensures.grows i.here;
    }
