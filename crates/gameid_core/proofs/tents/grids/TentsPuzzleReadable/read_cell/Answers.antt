use Rattle.gameid_core.specs.Common.{List, ap, get_or, ℕ, ◌∙◌}
use Rattle.gameid_core.proofs.PrintedGrids.{tent_read, number_fits}
use Rattle.gameid_core.proofs.tents.grids.TentsPuzzleReadable.read_cell.Goals as goal

pub returns-else-trees-place-eq1-clause-read : goal.returns-else-trees-place-eq1-clause-read
returns-else-trees-place-eq1-clause-read c g after shown _ is =
    tent_read _ _ _ after _ (λ e. c.if-trees-place-eq1.false (ap (λ (trees : List ℕ). get_or trees c.args.place 0) c.trees.ensures.value ∙ e))
    (number_fits _ _ _ g _ shown c.requires.place) c.read_symbol.ensures.read is
