use Rattle.engine_core.proofs.JudgeLemmas.{closed-grid}
use Rattle.engine_core.proofs.QueueLemmas.{within_of}
use Rattle.engine_core.proofs.trail.position.TrailPositionPositionHouseRules.accept.Goals as goal

pub completes-requires-clause-closed : goal.completes-requires-clause-closed
completes-requires-clause-closed g c =
    let r = rw (← c.self.view_is) at c.requires in
    let of = r.walks.along.board_of in
    let t = c.self.inside.trailed in
    closed-grid (g.met.S.RuleSet.lawful _ (g.met.S.RuleSet.knows c.args.rules.now.set)) (within_of _ t.board of) r.walks.inside
    r.closed r.full c.cells.ensures of.same_values (rw c.board.ensures at c.write_grid.ensures)
