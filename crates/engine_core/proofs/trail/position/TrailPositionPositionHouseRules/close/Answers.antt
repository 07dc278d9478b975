use Rattle.engine_core.proofs.Common.{Dead, IsClosing, [], arith, board_in, drop, has, length, refl, sym, ◌∙◌}
use Rattle.engine_core.proofs.MarkLemmas.{written-back}
use Rattle.engine_core.proofs.QueueLemmas.{alive_but, dead_of, within_of}
use Rattle.engine_core.proofs.ListLemmas.{closing-none}
use Rattle.engine_core.proofs.AroundLemmas.{closed-in, taken-dead}
use Rattle.engine_core.proofs.trail.position.TrailPositionPositionHouseRules.close.Goals as goal
use Rattle.engine_core.proofs.trail.position.TrailPositionPositionHouseRules.close.Goals.{Then-has_empty_cell, else-is_none-via-then-is_none+else-has_empty_cell, else-is_none-via-else-is_none}

-- a board that is dead already
dead : (g : _) (c : Then-has_empty_cell g) → IsClosing (g.S.RuleSet.system (g.S.RuleSet.puzzle_of c.args.rules.now.set)) (board_in c.args.self.now) (board_in c.args.self.now) Dead [] 0
dead g c =
    let p = g.S.RuleSet.system (g.S.RuleSet.puzzle_of c.args.rules.now.set) in
    let of = (rw (← c.self.view_is) at c.requires.walks).along.board_of in
    rw (← c.self.view_is) (closing-none p (g.met.S.RuleSet.lawful _ (g.met.S.RuleSet.knows c.args.rules.now.set)) (has c.self.inside.trailed.board) (within_of p _ of)
    (sym (dead_of p of) ∙ (sym (rw c.board.ensures at c.has_empty_cell.ensures) ∙ c.if-has_empty_cell.true)))

pub returns-then-has_empty_cell-clause-taken : goal.returns-then-has_empty_cell-clause-taken
returns-then-has_empty_cell-clause-taken g c = taken-dead (dead g (goal.at.returns-then-has_empty_cell-clause-taken g c).Then-has_empty_cell)

pub returns-then-has_empty_cell-clause-turns : goal.returns-then-has_empty_cell-clause-turns
returns-then-has_empty_cell-clause-turns g c =
    closed-in (dead g (goal.at.returns-then-has_empty_cell-clause-turns g c).Then-has_empty_cell)
    (λ _. refl) (λ _. refl)

pub run-requires-clause-alive : goal.run-requires-clause-alive
run-requires-clause-alive g c =
    let r = rw (← c.self.view_is) at c.requires in
    elim c.else-is_none.branch [
      | else-is_none-via-then-is_none+else-has_empty_cell w ↦
          sym (dead_of (g.S.RuleSet.system (g.S.RuleSet.puzzle_of c.args.rules.now.set)) r.walks.along.board_of) ∙ (sym (rw w.board.ensures at w.has_empty_cell.ensures) ∙ w.if-has_empty_cell.false)
      | else-is_none-via-else-is_none w ↦ alive_but _ _ c.args.from (c.is_none.ensures ∙ rw (w.if-is_none.false) refl) r.closed_but
    ]

-- the houses that wait at first
pub run-requires-clause-rested : goal.run-requires-clause-rested
run-requires-clause-rested g c =
    let r = rw (← c.self.view_is) at c.requires in
    rw (written-back c.self.inside.waits.len c.wait_from.new.waits
    (drop (length c.wait_from.new.waits) c.self.inside.waits.items)
    (omega (arith, c.self.inside.waits.ok.0, c.deref_mut.ensures.len, c.wait_from.auto.waits)))
    (c.wait_from.ensures _ r.closed_but)
