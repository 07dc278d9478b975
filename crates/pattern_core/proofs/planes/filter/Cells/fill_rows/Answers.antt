use Rattle.pattern_core.proofs.Common.{AreRows, along, ap₂, arith, refl, set_with, sets_by, slots_of, subst, sym, ◌+◌, ◌-◌, ◌∙◌, ◌≡◌}
use Rattle.pattern_core.proofs.LineWords.{length-sets, sets-at}
use Rattle.pattern_core.proofs.TableSteps.{last_row, later_rows, one_row}
use Rattle.pattern_core.proofs.planes.filter.Cells.fill_rows.Goals as goal

pub loop-at-init : goal.loop-at-init
loop-at-init g c =
    let white = g.W.Word.bits c.args.self.white in let black = g.W.Word.bits c.args.self.black in
    let long = length-sets white black c.args.count in (
      omega arith,
      rw long at (last_row (slots_of g.P.Word.bits) (along (slots_of g.P.Word.bits) c.args.steps) (sets_by white black c.args.count) c.args.rows.now c.args.steps.ends (λ p. refl)
          (omega (arith, c.requires.room, long))),
    )

pub loop-at-preserved : goal.loop-at-preserved
loop-at-preserved g c =
    let white = g.W.Word.bits c.args.self.white in let black = g.W.Word.bits c.args.self.black in
    let sets = sets_by white black c.args.count in let pos = c.loop-at-test.true in
    let low = c.loop-at.invariant.0 in let next : c.loop-at.at ≡ c.loop-at.at - 1 + 1 = omega arith in
    let t = along (slots_of g.P.Word.bits) c.args.steps in
    let set = ap₂ set_with c.has.ensures c.has-in-loop-at.ensures ∙ sym (sets-at white black c.args.count (c.loop-at.at - 1) (omega arith)) in (
      omega arith,
      one_row (slots_of g.P.Word.bits) t sets c.loop-at.rows (c.loop-at.at - 1) c.ahead_of.result
          (subst (AreRows (slots_of g.P.Word.bits) t sets c.loop-at.rows) next c.loop-at.invariant.1) (omega (arith, length-sets white black c.args.count)) c.index-rows-at.is
          (rw set at c.ahead_of.ensures),
    )

pub returns : goal.returns
returns g c = later_rows _ _ _ _ (omega (arith, c.loop-at-test.false)) c.loop-at.invariant.1
