use Rattle.gameid_core.specs.Common.{refl}
use Rattle.gameid_core.proofs.PrintedGrids.{symbol_read, number_fits}
use Rattle.gameid_core.proofs.pattern.grids.PatternPuzzleReadable.read_cell.Goals as goal

pub returns-clause-read : goal.returns-clause-read
returns-clause-read c g after shown _ is = symbol_read 35 46 _ _ (number_fits _ _ _ g _ shown c.requires.place) refl refl c.read_symbol.ensures.read is
