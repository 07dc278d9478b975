use Rattle.engine_core.proofs.Common.{has}
use Rattle.engine_core.proofs.AroundLemmas.{turns-told}
use Rattle.engine_core.proofs.ClosingLemmas.{closure_inside}
use Rattle.engine_core.proofs.trail.plain.PlainPositionPosition.close.Goals as goal
use Rattle.engine_core.proofs.trail.plain.PlainPositionPosition.close.Goals.{After-close_board-taken}
use Rattle.engine_core.specs.Common.{IsClosedIn, board_in}

-- what the closing left lies inside the board
pub follow-requires-clause-inside : goal.follow-requires-clause-inside
follow-requires-clause-inside g c =
    let p = g.R.Rules.system c.args.rules.now in
    let left = (rw c.board-board.ensures at c.close_board-taken.ensures.closing).closing.rest c.in-Open.is in
    rw (c.board.ensures.board, left) (closure_inside p (has c.self.inside.trailed.board))

pub follow-requires-clause-same_shape : goal.follow-requires-clause-same_shape
follow-requires-clause-same_shape g c = rw c.board.ensures.board c.close_board-taken.ensures.board_of

turns : (g : _) (c : After-close_board-taken g) → IsClosedIn (g.R.Rules.system c.args.rules.now) (board_in c.args.self.now) c.close_board-taken.result.turns
turns g c =
    rw (← c.self.view_is) (turns-told _ c.close_board-taken.new.self (g.met.R.Rules.mode_is c.args.rules.now)
    (rw c.board-board.ensures at c.close_board-taken.ensures.closing))

pub returns-in-Open-clause-turns : goal.returns-in-Open-clause-turns
returns-in-Open-clause-turns g c = turns g (goal.at.returns-in-Open-clause-turns g c).After-close_board-taken

pub returns-in_default-clause-turns : goal.returns-in_default-clause-turns
returns-in_default-clause-turns g c = turns g (goal.at.returns-in_default-clause-turns g c).After-close_board-taken
