use Rattle.grid_core.proofs.Common.{get_or_read}
use Rattle.grid_core.proofs.BoardLemmas.{IsSetsOf_joined}
use Rattle.grid_core.proofs.board.Board.restore_set.Goals as goal

pub invariant_of-self : goal.invariant_of-self
invariant_of-self c =
    let within = rw (← c.self.view_is) at c.requires.place_in in
    IsSetsOf_joined _ _ _ within (get_or_read c.self.inside.sets.items _ _ within c.index-set.ensures 0) c.self.invariant
    (rw (← c.self.view_is) at c.requires.small)
