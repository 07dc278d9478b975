use Rattle.maker_core.proofs.TentsSolved.{filled}
use Rattle.maker_core.proofs.tents.filling.fill_tents.Goals as goal

pub returns-clause-drawn : goal.returns-clause-drawn
returns-clause-drawn g c =
    filled c.args.size _ c.cells-cells.ensures.value c.in_ok-places.ensures.drawn c.deref.ensures.value
    c.take_cells.ensures.drawn
