use Rattle.std.proofs.Common.{ap, sym, ◌∙◌}
use Rattle.grid_core.specs.Board.{has}
use Rattle.grid_core.specs.Candidates.{Candidates}
use Rattle.engine_core.proofs.HouseLemmas.{without-inside}
use Rattle.core_tests.proofs.small.beside.closes_without.Goals as goal

pub close_from-closing-requires-clause-inside : goal.close_from-closing-requires-clause-inside
close_from-closing-requires-clause-inside g c = λ d v on.
    sym (ap (λ (K : Candidates). K d v) c.start.ensures.start)
    ∙ without-inside (has c.start.new.board) (has c.strike.new.self) c.args.cell _ c.strike.ensures.left d v on
