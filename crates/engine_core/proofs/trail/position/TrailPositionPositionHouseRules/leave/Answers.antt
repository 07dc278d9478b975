use Rattle.engine_core.proofs.Common.{has}
use Rattle.engine_core.proofs.NotesLemmas.{only-keeps, only-one}
use Rattle.engine_core.proofs.trail.position.TrailPositionPositionHouseRules.leave.Goals as goal

pub single-requires-clause-noted : goal.single-requires-clause-noted
single-requires-clause-noted g c =
    let puzzle = g.S.RuleSet.puzzle_of c.args.rules.now.set in
    let r = rw (← c.self.view_is) at c.requires in
    rw (c.board.ensures, c.leave_one.ensures.left)
    (g.met.S.Notes.Notes.stays_noted puzzle _ _ _ (only-keeps (has c.self.inside.trailed.board) c.args.cell c.args.value (g.S.RuleSet.system puzzle).values r.several)
    r.walks.along.noted)

pub single-requires-clause-one : goal.single-requires-clause-one
single-requires-clause-one g c =
    let r = rw (← c.self.view_is) at c.requires in
    rw (c.board.ensures, c.leave_one.ensures.left) (only-one (has c.self.inside.trailed.board) c.args.cell c.args.value _ r.value_in r.there)
