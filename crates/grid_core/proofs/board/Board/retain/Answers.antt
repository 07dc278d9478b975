use Rattle.grid_core.proofs.Common.{eqb-false, get_or_read, not-true}
use Rattle.grid_core.proofs.BoardLemmas.{retained_lost}
use Rattle.grid_core.proofs.board.Board.retain.Goals as goal

pub returns-clause-lost : goal.returns-clause-lost
returns-clause-lost c = λ on.
    let within = rw (← c.self.view_is) at c.requires in
    rw (← c.self.view_is) (retained_lost _ _ _ within (get_or_read c.self.inside.sets.items _ _ within c.index-set.ensures 0)
    c.self.invariant c.args.kept (eqb-false _ _ (not-true _ on)))
