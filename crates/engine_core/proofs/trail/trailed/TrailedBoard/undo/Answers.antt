use Rattle.engine_core.proofs.Common.{arith, get_or_read_under, given_back, has, sym, ◌-◌, ◌∙◌}
use Rattle.engine_core.proofs.TrailLemmas.{IsUndone, undone, trail-len}
use Rattle.grid_core.proofs.TakingLemmas.{put_back-none}
use Rattle.engine_core.proofs.trail.trailed.TrailedBoard.undo.Goals as goal
use Rattle.engine_core.proofs.trail.trailed.TrailedBoard.undo.Goals.{After-restore_set}

-- what taking the last change back leaves
last_undone : (c : After-restore_set)
    → IsUndone c.args.self.now.board c.loop-self.self-inside.board c.restore_set.new.self
    c.loop-self.self-inside.changes.items c.loop-self.self-inside.len
last_undone c =
    let i = c.loop-self.invariant in
    let t = c.loop-self.self-inside in
    let few = trail-len i.trail in
    let last = get_or_read_under t.changes.items (t.len - 1) t.changes.len _ _ c.index.ensures (omega (arith, t.changes.ok.0)) t.changes.ok.0 in
    undone i.shape c.restore_set.ensures.shape i.trail (omega arith) last c.restore_set.ensures.left

pub loop-self-preserved : goal.loop-self-preserved
loop-self-preserved c =
    let i = c.loop-self.invariant in
    let u = last_undone (goal.at.loop-self-preserved c).After-restore_set in
    record {
      low = omega arith;
      trail = u.trail;
      back = λ m le. u.back m (omega arith) ∙ i.back m le;
      shape = u.shape;
      same_room = i.same_room;
    }

pub returns : goal.returns
returns c =
    let i = c.loop-self.invariant in
    let t = c.loop-self.self-inside in
    record {
      shape = i.shape;
      same_room = i.same_room;
      here = sym (put_back-none given_back (0, 0) (has t.board) t.changes.items c.args.mark t.len (omega arith)) ∙ i.back c.args.mark (omega arith);
      len = (omega (arith, i.low));
      back = λ m le. i.back m le;
    }
