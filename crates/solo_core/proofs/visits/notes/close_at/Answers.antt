use Rattle.solo_core.proofs.Common.{arith}
use Rattle.solo_core.proofs.NoteLemmas.{noted-spots, noted-stay, one-only, single-set}
use Rattle.solo_core.proofs.visits.notes.close_at.Goals as goal

pub close_cell-requires : goal.close_cell-requires
close_cell-requires c = noted-spots _ c.requires.solo c.requires.notes c.args.place c.requires.place_in c.at.ensures

pub returns-clause-notes : goal.returns-clause-notes
returns-clause-notes c =
    let b = c.args.board.now in
    let w = one-only b c.args.place c.requires.one in
    noted-stay _ c.requires.solo c.requires.notes c.args.place c.requires.place_in c.at.ensures _ c.close_cell.ensures.as_many c.close_cell.ensures.stay
    (omega (arith, w.1, c.requires.values)) (single-set b c.args.place c.bits.ensures.small c.bits.ensures.same w.1 w.2) w.2
