use Rattle.engine_core.proofs.Common.{arith, frame_at, get_or_read, refl, within_inside, ◌-◌, ◌≡◌}
use Rattle.engine_core.proofs.LevelLemmas.{open-back, open-cell, top-open, turn-done, turn-ready, turn-trial}
use Rattle.engine_core.proofs.search.levels.Levels.next_trial.Goals as goal
use Rattle.engine_core.proofs.search.levels.Levels.next_trial.Goals.{After-leave}

pub offset_bounds-frames-self : goal.offset_bounds-frames-self
offset_bounds-frames-self g c = omega (arith, (top-open c.requires.ready c.requires.deep).1, c.requires.ready.room, c.args.self.now.frames.ok)

pub bounds-frames-self : goal.bounds-frames-self
bounds-frames-self g c = rw c.deref-frames.ensures.value (omega (arith, (top-open c.requires.ready c.requires.deep).1, c.requires.ready.room))

pub undo-requires-clause-marked : goal.undo-requires-clause-marked
undo-requires-clause-marked g c = rw c.deref-frames.ensures.value (c.requires.ready.marked (c.args.self.now.depth - 1) (omega (arith, c.requires.deep)))

pub undo-requires-clause-inside : goal.undo-requires-clause-inside
undo-requires-clause-inside g c =
    rw c.deref-frames.ensures.value (c.requires.ready.open_levels (c.args.self.now.depth - 1) (omega (arith, c.requires.deep))).inside

pub next_value-requires-clause-cell_in : goal.next_value-requires-clause-cell_in
next_value-requires-clause-cell_in g c = rw c.deref-frames.ensures.value (top-open c.requires.ready c.requires.deep).0

pub index_mut-requires : goal.index_mut-requires
index_mut-requires g c = omega (arith, (top-open c.requires.ready c.requires.deep).1, c.requires.ready.room, c.args.self.now.frames.ok.0)

pub leave-requires-clause-cell_in : goal.leave-requires-clause-cell_in
leave-requires-clause-cell_in g c = rw c.deref-frames.ensures.value (top-open c.requires.ready c.requires.deep).0

pub leave-requires-clause-several : goal.leave-requires-clause-several
leave-requires-clause-several g c =
    rw c.deref-frames.ensures.value (open-cell (open-back c.requires.ready c.requires.deep (rw c.deref-frames.ensures.value at c.undo.ensures.returned))).two

pub returns-in_err-value-clause-turn : goal.returns-in_err-value-clause-turn
returns-in_err-value-clause-turn g c =
    rw c.from_residual.ensures (turn-done c.requires.ready c.requires.deep (rw c.deref-frames.ensures.value at c.undo.ensures.returned) (rw c.deref-frames.ensures.value at c.in_err-value.ensures))

-- the innermost frame, as it is written
written : (g : _) (c : After-leave g) → c.index_mut.result.now ≡ frame_at c.args.self.now.frames.items (c.args.self.now.depth - 1)
written g c =
    get_or_read c.args.self.now.frames.items (c.args.self.now.depth - 1) c.index_mut.result.now
    (omega (arith, (top-open c.requires.ready c.requires.deep).1, c.requires.ready.room)) c.index_mut.ensures.value (record { cell = 0; next = 0; mark = 0 })

pub returns-clause-ready : goal.returns-clause-ready
returns-clause-ready g c =
    let e = c.deref-frames.ensures.value in
    turn-ready c.requires.ready c.requires.deep (rw e at c.undo.ensures.returned) c.in_ok-value.value (rw e at c.in_ok-value.ensures)
    (rw e at c.leave.ensures.left) c.leave.ensures.onward
    (rw (written g (goal.at.returns-clause-ready g c).After-leave) refl)

pub returns-clause-turn : goal.returns-clause-turn
returns-clause-turn g c =
    let e = c.deref-frames.ensures.value in
    rw e (turn-trial c.requires.ready c.requires.deep (rw c.deref-frames.ensures.value at c.undo.ensures.returned) c.in_ok-value.value (rw e at c.in_ok-value.ensures)
    (rw e at c.leave.ensures.left) c.leave.ensures.onward
    (within_inside _ _ _ _ (g.met.R.Rules.lawful c.args.rules.now).start_within (g.met.P.Position.inside c.args.rules.now c.undo.new.self c.undo.ensures.walks))
    (rw (written g (goal.at.returns-clause-turn g c).After-leave) refl) refl)
