use Rattle.engine_core.proofs.Common.{arith, ◌-◌, ◌∙◌}
use Rattle.engine_core.proofs.NotesLemmas.{last-but, shape-more}
use Rattle.engine_core.proofs.trail.noting.put_back.Goals as goal

pub loop-trailed-preserved : goal.loop-trailed-preserved
loop-trailed-preserved g c =
    let i = c.loop-trailed.invariant in
    let t = c.loop-trailed.trailed in
    let u = c.undo.ensures in
    record {
      low = omega (arith, u.len, c.len-last.ensures.len, c.len.ensures.len);
      back = λ m le. u.back m (omega (arith, c.len-last.ensures.len, c.len.ensures.len)) ∙ i.back m le;
      shape = shape-more i.shape u.shape;
      same_room = u.same_room ∙ i.same_room;
      noted = c.back.ensures.noted _ (rw (u.here, c.board.ensures, c.changed.ensures.place) (last-but t (c.len-last.result - 1) (omega (arith, c.len-last.ensures.len, c.len.ensures.len))));
      keeps = λ needs made. c.back.ensures.keeps needs (i.keeps needs made);
    }
