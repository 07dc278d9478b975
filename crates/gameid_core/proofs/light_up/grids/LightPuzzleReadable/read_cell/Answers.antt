use Rattle.gameid_core.specs.Common.{refl}
use Rattle.gameid_core.proofs.PrintedGrids.{black_read, white_read, same_some, number_fits, light_known}
use Rattle.gameid_core.proofs.light_up.grids.LightPuzzleReadable.read_cell.Goals as goal

pub returns-in-White-clause-read : goal.returns-in-White-clause-read
returns-in-White-clause-read c g after shown _ is =
    let known = light_known c.cells.ensures.lawful c.requires.place c.cells.ensures.value c.in-White.is in
    white_read _ _ after _ known.0 (number_fits _ _ _ g _ shown c.requires.place) c.read_symbol.ensures.read is

pub returns-in_default-clause-read : goal.returns-in_default-clause-read
returns-in_default-clause-read c g after shown _ is =
    let known = light_known c.cells.ensures.lawful c.requires.place c.cells.ensures.value refl in
    let none = shown.hidden c.args.place (λ white. c.in_default.not-White (same_some known.0 white)) in
    black_read _ after known.0 c.in_default.not-White known.1 none c.read_hidden.ensures.read is
