use Rattle.grid_core.proofs.Common.{ArePlanes, arith, planes_have, layers_of, no_taking, sym, turned_by, ◌-◌, ◌∙◌}
use Rattle.grid_core.proofs.PlaneLemmas.{IsPutBack}
use Rattle.grid_core.proofs.PlaneSteps.{undo_step, room_at, last_read}
use Rattle.grid_core.proofs.TakingLemmas.{put_back-none}
use Rattle.grid_core.proofs.planes.Planes.undo.Goals as goal
use Rattle.grid_core.proofs.planes.Planes.undo.Goals.{After-turn_line}

pub turn_line-requires : goal.turn_line-requires
turn_line-requires g c =
    let i = c.loop-self.invariant in
    let lt = c.loop-self-test.true in
    let last = last_read _ c.loop-self.self-inside i.are c.index-change.result.now (omega arith) c.index-change.ensures in
    room_at _ c.loop-self.self-inside i.are _ (rw last at (i.are.takings.takings_in (c.loop-self.self-inside.len - 1) (omega arith)))

step : (g : _) (c : After-turn_line g)
    → IsPutBack g.W.Word.room
    (layers_of g.W.Word.bits c.loop-self.self-inside.size c.loop-self.self-inside.rows.items
    c.loop-self.self-inside.columns.items c.loop-self.self-inside.changes.items
    c.loop-self.self-inside.len)
    (layers_of g.W.Word.bits c.loop-self.self-inside.size c.turn_line.new.rows.items c.turn_line.new.columns.items
    c.loop-self.self-inside.changes.items (c.loop-self.self-inside.len - 1))
step g c =
    let are = c.loop-self.invariant.are in
    let lt = c.loop-self-test.true in
    let t = c.turn_line.ensures in
    let last = last_read _ c.loop-self.self-inside are c.index-change.result.now (omega arith) c.index-change.ensures in
    undo_step _ c.loop-self.self-inside are c.turn_line.new.rows c.turn_line.new.columns _ _ (omega arith) last t.turned t.tall t.wide

pub loop-self-preserved : goal.loop-self-preserved
loop-self-preserved g c =
    let i = c.loop-self.invariant in
    let lt = c.loop-self-test.true in
    let s = step g (goal.at.loop-self-preserved g c).After-turn_line in
    record {
      low = omega arith;
      are = s.are;
      back = λ m le. s.back m (omega arith) ∙ i.back m le;
      same_size = i.same_size;
      same_room = i.same_room;
    }

pub returns : goal.returns
returns g c =
    let i = c.loop-self.invariant in
    let p = c.loop-self.self-inside in
    let to = layers_of g.W.Word.bits p.size p.rows.items p.columns.items p.changes.items p.len in
    let from = c.args.self.now in
    let are : ArePlanes g.W.Word.room from = rw (← c.self.view_is) c.self.invariant in
    let falls = are.takings.falls in
    let here = sym (put_back-none (turned_by to.size.w) no_taking (planes_have to) to.takings c.args.len to.len (omega arith)) ∙ i.back c.args.len (omega arith) in
    record {
      same_size = i.same_size;
      same_room = i.same_room;
      here = here;
      len = omega (arith, i.low);
      regained = rw here (λ k v on. falls c.args.len from.len c.requires (omega arith) k v
          (rw (put_back-none (turned_by from.size.w) no_taking (planes_have from) from.takings from.len from.len (omega arith)) on));
      back = λ m le. i.back m le;
    }
