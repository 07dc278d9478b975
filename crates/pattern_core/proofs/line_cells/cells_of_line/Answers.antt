use Rattle.pattern_core.proofs.Common.{arith, elements, line_laws}
use Rattle.pattern_core.proofs.line_cells.cells_of_line.Goals as goal

pub returns-clause-places : goal.returns-clause-places
returns-clause-places c = grind (arith, elements, line_laws)
