use Rattle.engine_core.proofs.Common.{IsOpen, within_inside, ap, append_assoc, arith, found_marks, sym, ◌++◌, ◌∙◌}
use Rattle.engine_core.proofs.ClosingLemmas.{closure_closed}
use Rattle.engine_core.proofs.JudgeLemmas.{full_unpicked, pick-inside}
use Rattle.engine_core.proofs.LevelLemmas.{IsDescent, descend-dead, descend-full, descend-split, open-room, ready-onward, ready-push, split-room}
use Rattle.engine_core.proofs.search.levels.Levels.descend.Goals as goal
use Rattle.engine_core.proofs.search.levels.Levels.descend.Goals.{After-close-taken, In-Some}

-- what the closing left
descent : (g : _) (c : After-close-taken g)
    → IsDescent (g.R.Rules.system c.args.rules.now) (g.P.Position.stands c.args.position.now)
    (g.P.Position.stands c.close-taken.new.self) c.args.self.now.frames.items
    c.args.self.now.depth
descent g c = record {
  ready = c.requires.ready;
  onward = c.close-taken.ensures.onward;
  within = within_inside _ _ _ _ (g.met.R.Rules.lawful c.args.rules.now).start_within (g.met.P.Position.inside c.args.rules.now c.args.position.now c.requires.walks);
}

-- the level that is opened
opened : (g : _) (c : In-Some g)
    → IsOpen (g.R.Rules.system c.args.rules.now)
    (record {
      board = (g.P.Position.stands c.close-taken.new.self).board;
      cell = c.in-Some.cell;
      next = 0;
    }) c.args.self.now.depth
opened g c =
    let t = c.close-taken.ensures.taken in
    split-room c.close-taken.ensures.onward.inside c.requires.single (t.alive c.in_default.is)
    (sym c.pick.ensures ∙ c.in-Some.is)
    (within_inside _ _ _ _ (g.met.R.Rules.lawful c.args.rules.now).start_within (g.met.P.Position.inside c.args.rules.now c.args.position.now c.requires.walks))
    (t.left c.in_default.is)
    (g.met.P.Position.inside c.args.rules.now c.close-taken.new.self c.close-taken.ensures.walks)

pub index_mut-requires : goal.index_mut-requires
index_mut-requires g c =
    let room = open-room (opened g (goal.at.index_mut-requires g c).In-Some) in
    omega (arith, c.requires.ready.room, c.args.self.now.frames.ok.0)

pub overflow_add-self : goal.overflow_add-self
overflow_add-self g c =
    let room = open-room (opened g (goal.at.overflow_add-self g c).In-Some) in
    omega (arith, (g.met.R.Rules.lawful c.args.rules.now).few_cells)

pub pick-requires-clause-none : goal.pick-requires-clause-none
pick-requires-clause-none g c = pick-inside _ _ _ _ c.close-taken.ensures.onward.inside c.requires.none

pub note-requires-clause-closed : goal.note-requires-clause-closed
note-requires-clause-closed g c =
    rw (c.close-taken.ensures.taken.left c.in_default.is)
    (closure_closed (g.R.Rules.system c.args.rules.now)
    (g.P.Position.stands c.args.position.now).board
    (descent g (goal.at.note-requires-clause-closed g c).After-close-taken).within)

pub note-requires-clause-full : goal.note-requires-clause-full
note-requires-clause-full g c =
    full_unpicked (g.R.Rules.system c.args.rules.now) _ (c.close-taken.ensures.taken.alive c.in_default.is) (sym c.in-None.is ∙ c.pick.ensures)

pub returns-in-Dead-clause-marks : goal.returns-in-Dead-clause-marks
returns-in-Dead-clause-marks g c =
    ap (λ ms. found_marks c.args.self.now.grids ++ ms)
    (descend-dead (descent g (goal.at.returns-in-Dead-clause-marks g c).After-close-taken)
    (c.close-taken.ensures.taken.dead c.in-Dead.is))

pub returns-in-None-clause-marks : goal.returns-in-None-clause-marks
returns-in-None-clause-marks g c =
    let t = c.close-taken.ensures.taken in
    let full =
    descend-full (descent g (goal.at.returns-in-None-clause-marks g c).After-close-taken)
    (t.left c.in_default.is) (t.alive c.in_default.is)
    (full_unpicked (g.R.Rules.system c.args.rules.now) _ (t.alive c.in_default.is) (sym c.in-None.is ∙ c.pick.ensures)) in
    rw (c.note.ensures.same, c.note.ensures.noted)
    (ap (λ ms. found_marks c.args.self.now.grids ++ ms) full ∙ sym (append_assoc (found_marks c.args.self.now.grids) _ _))

pub returns-in-Some-clause-marks : goal.returns-in-Some-clause-marks
returns-in-Some-clause-marks g c =
    let at = goal.at.returns-in-Some-clause-marks g c in
    let room = open-room (opened g at.In-Some) in
    let t = c.close-taken.ensures.taken in
    let here = rw c.len-mark.ensures.len at c.len-mark.ensures.here in
    rw c.len-mark.ensures.len (ap (λ ms. found_marks c.args.self.now.grids ++ ms)
    (descend-split (descent g at.After-close-taken) (t.left c.in_default.is)
    (t.alive c.in_default.is) c.in-Some.cell (sym c.pick.ensures ∙ c.in-Some.is)
    (omega (arith, c.requires.ready.room)) here))

pub returns-in-Some-clause-ready : goal.returns-in-Some-clause-ready
returns-in-Some-clause-ready g c =
    let o = opened g (goal.at.returns-in-Some-clause-ready g c).In-Some in
    let room = open-room o in
    rw c.len-mark.ensures.len (ready-push c.args.self.now.frames.items c.in-Some.cell (omega (arith, c.requires.ready.room))
    (rw c.len-mark.ensures.len at c.len-mark.ensures.here) (ready-onward c.requires.ready c.close-taken.ensures.onward) o)
