use Rattle.solo_core.proofs.Common.{arith, sym, ◌∙◌}
use Rattle.solo_core.proofs.NoteLemmas.{noted-open, noted-several, noted-spots, noted-stay, one-only, only-one, single-set}
use Rattle.solo_core.proofs.visits.notes.open_at.Goals as goal

pub reopen_cell-requires : goal.reopen_cell-requires
reopen_cell-requires c = noted-spots _ c.requires.solo c.requires.notes c.args.place c.requires.place_in c.at.ensures

pub returns-then-count-eq1-clause-notes : goal.returns-then-count-eq1-clause-notes
returns-then-count-eq1-clause-notes c = λ L same.
    let b = c.args.board.now in
    let w = one-only b c.args.place (sym c.count.ensures ∙ c.if-count-eq1.true) in
    let stay = noted-stay _ c.requires.solo c.requires.notes c.args.place c.requires.place_in c.at.ensures _ c.reopen_cell.ensures.as_many c.reopen_cell.ensures.stay
    (omega (arith, w.1, c.requires.values)) (single-set b c.args.place c.bits.ensures.small c.bits.ensures.same w.1 w.2) w.2 in
    noted-open _ c.requires.solo stay c.args.place c.requires.place_in c.at.ensures c.reopen_cell.ensures.here same

pub returns-else-count-eq1-clause-notes : goal.returns-else-count-eq1-clause-notes
returns-else-count-eq1-clause-notes c = λ L same.
    let b = c.args.board.now in
    noted-several _ c.requires.notes c.args.place (λ v only. c.if-count-eq1.false (c.count.ensures ∙ only-one b c.args.place v only)) same
