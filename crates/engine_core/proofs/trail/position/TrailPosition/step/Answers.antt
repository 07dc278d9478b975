use Rattle.engine_core.proofs.Common.{arith, drop, has, has_place, length, refl}
use Rattle.engine_core.proofs.QueueLemmas.{IsBoardOf-same, within_of, woken-by, woken-same, woken-unstruck}
use Rattle.engine_core.proofs.MarkLemmas.{written-back}
use Rattle.engine_core.proofs.NotesLemmas.{alive-keeps, none-struck}
use Rattle.engine_core.proofs.TrailLemmas.{lost-any}
use Rattle.engine_core.proofs.trail.position.TrailPosition.step.Goals as goal
use Rattle.engine_core.proofs.trail.position.TrailPosition.step.Goals.{After-strike}

pub returns-then-count-eq0-clause-step : goal.returns-then-count-eq0-clause-step
returns-then-count-eq0-clause-step g c =
    let r = rw (← c.self.view_is) at c.requires in
    let same =
    none-struck (g.met.S.RuleSet.lawful _ (g.met.S.RuleSet.knows c.args.rules.now.set)) _ _ r.house_in
    (rw (c.board-board.ensures, c.if-count-eq0.true) at c.in-Some.ensures.struck) in
    rw (← c.self.view_is, written-back c.self.inside.waits.len c.dequeue.new.waits _ (omega (arith, c.self.inside.waits.ok.0, c.deref_mut.ensures.len, c.dequeue.auto.waits))) (
      same,
      r.alive,
      woken-unstruck refl (rw c.deref_mut.ensures.value at c.dequeue.ensures),
    )

-- the notes stay true of what the visit leaves
noted : (g : _) (c : After-strike g) → g.S.Notes.Notes.noted (g.S.RuleSet.puzzle_of c.args.rules.now.set) (has c.strike.new.self.board) c.visit.new.self
noted g c =
    let puzzle = g.S.RuleSet.puzzle_of c.args.rules.now.set in
    let r = rw (← c.self.view_is) at c.requires in
    g.met.S.Notes.Notes.stays_noted puzzle _ _ _
    (alive-keeps (has c.self.inside.trailed.board) _ (within_of (g.S.RuleSet.system puzzle) _ r.along.board_of) c.strike.ensures.further.inside c.strike.ensures.alive)
    (rw c.board-board.ensures at c.visit.ensures.noted)

pub returns-then-strike-clause-along : goal.returns-then-strike-clause-along
returns-then-strike-clause-along g c =
    let r = rw (← c.self.view_is) at c.requires in
    record {
      fits = r.along.fits;
      board_of = IsBoardOf-same r.along.board_of c.strike.ensures.further.shape;
      noted = noted g (goal.at.returns-then-strike-clause-along g c).After-strike;
    }

pub wake_since-requires-clause-noted : goal.wake_since-requires-clause-noted
wake_since-requires-clause-noted g c = noted g (goal.at.wake_since-requires-clause-noted g c).After-strike

pub returns-clause-step : goal.returns-clause-step
returns-clause-step g c =
    let p = g.S.RuleSet.system (g.S.RuleSet.puzzle_of c.args.rules.now.set) in
    let r = rw (← c.self.view_is) at c.requires in
    let s = c.strike.ensures.struck c.if-strike.false in
    let v = c.self.inside.waits in
    let cleared =
    written-back v.len c.dequeue.new.waits (drop (length c.dequeue.new.waits) v.items)
    (omega (arith, v.ok.0, c.deref_mut.ensures.len, c.dequeue.auto.waits)) in
    let called =
    woken-same (λ j lt. lost-any p (has_place (p.scope j)) s.lost)
    (rw (c.len-before.ensures.len, c.deref_mut-waits.ensures.value, cleared)
    at c.wake_since.ensures.woken) in
    rw (← c.self.view_is) (
      s.left,
      s.alive,
      rw (written-back v.len c.dequeue_if.new.waits _
          (omega (arith, v.ok.0, c.deref_mut.ensures.len, c.dequeue.auto.waits, c.deref_mut-waits.ensures.len, c.wake_since.auto.waits, c.dequeue_if.auto.waits)))
          (woken-by (rw c.deref_mut.ensures.value at c.dequeue.ensures) called
          (λ j. rw (c.SETTLED.ensures, ← (g.met.S.RuleSet.settled_is (g.S.RuleSet.puzzle_of c.args.rules.now.set))) at (c.dequeue_if.ensures j))),
    )
