use Rattle.fields_core.proofs.Common.{AreTentsRested, AreVisited, Columns, Rows, Squares, Tents, Trees, all_of_kind, arith, fewer_left, planes_have, has_bit, kind_houses, kind_lines, later_kinds, refl, sym, true, true≢false, ℕ, ◌∙◌, ◌≡◌, ◌≤◌}
use Rattle.fields_core.specs.declared.planes.tents.waits.Kind.{Kind}
use Rattle.fields_core.proofs.IdleLemmas.{passed-all, passed-doomed}
use Rattle.fields_core.proofs.TentTouching.{filled-or-dead}
use Rattle.fields_core.proofs.HouseOrder.{quiet-done, quiet-next}
use Rattle.fields_core.proofs.TentWaits.{field-further, kind-each, kind-first, kind-quiet, rested-woken}
use Rattle.fields_core.proofs.planes.tents.tent_notes.TentNotes.sweep_kind.Goals as goal
use Rattle.fields_core.proofs.planes.tents.tent_notes.TentNotes.sweep_kind.Goals.{After-settle, else-len, then-len}

few-lines : (p : Tents) (kind : Kind) {room : ℕ} → p.size.w ≤ room → p.size.h ≤ room → kind_lines p kind ≤ room
few-lines p Columns narrow low = narrow
few-lines p Rows narrow low = low
few-lines p Trees narrow low = low
few-lines p Squares narrow low = low

pub loop-left-init : goal.loop-left-init
loop-left-init g c = record {
  passed = kind-first g.W.Word.bits c.args.puzzle.now c.args.kind c.args.self.now.waits c.requires.ready.field.alive
      c.requires.ready.rested
      (c.lines-left.ensures c.args.puzzle.now c.requires.ready.field.size);
  trees = refl;
  waits = refl;
}

pub loop-left-smaller : goal.loop-left-smaller
loop-left-smaller g c =
    fewer_left (has_bit (g.W.Word.bits c.loop-left.left)) (has_bit (g.W.Word.bits c.without_lowest-left.result)) g.W.Word.room c.lowest.result
    c.lowest.ensures.within c.lowest.ensures.has (λ k. c.without_lowest-left.ensures c.lowest.result k c.lowest.ensures)

pub returns-then-not-visit-clause-visited : goal.returns-then-not-visit-clause-visited
returns-then-not-visit-clause-visited g c = record {
  left = λ e. absurd (true≢false (sym e));
  dies = λ _ others. passed-doomed (kind_houses c.args.puzzle.now c.args.kind) c.loop-left.invariant.passed c.lowest.ensures
      (later_kinds c.args.puzzle.now c.args.kind) others (c.visit.ensures.visited.dies c.if-not-visit.true);
}

pub loop-left-preserved : goal.loop-left-preserved
loop-left-preserved g c = record {
  passed = quiet-next (kind-quiet c.args.puzzle.now c.requires.ready.field.lawful c.args.kind)
      (kind-each c.args.puzzle.now c.requires.ready.field.lawful c.args.kind) (rw (c.requires.ready.field.size) refl) c.loop-left.invariant.passed
      c.lowest.ensures (c.visit.ensures.visited.left c.if-not-visit.false) refl _
      (λ k. c.without_lowest-left.ensures c.lowest.result k c.lowest.ensures);
  trees = c.visit.ensures.trees ∙ c.loop-left.invariant.trees;
  waits = c.visit.ensures.waits ∙ c.loop-left.invariant.waits;
}

-- all of the kind are passed
whole : (g : _) (c : After-settle g) → AreVisited (all_of_kind c.args.puzzle.now c.args.kind) c.args.planes.now c.loop-left.planes true
whole g c =
    passed-all (kind_houses c.args.puzzle.now c.args.kind) c.loop-left.invariant.passed
    (few-lines c.args.puzzle.now c.args.kind c.requires.ready.field.narrow c.requires.ready.field.low) (sym c.is_some.ensures ∙ c.loop-left-test.false)

pub returns-clause-visited : goal.returns-clause-visited
returns-clause-visited g c = filled-or-dead c.args.puzzle.now c.args.kind (whole g (goal.at.returns-clause-visited g c).After-settle)

pub returns-clause-ready : goal.returns-clause-ready
returns-clause-ready g c = λ _.
    let bits = g.W.Word.bits in let p = c.args.puzzle.now in
    let now = c.loop-left.planes in let passed = c.loop-left.invariant.passed in
    let further = passed.visited.further in
    let before : AreTentsRested bits p c.loop-left.self.waits (planes_have c.args.planes.now) = rw c.loop-left.invariant.waits c.requires.ready.rested in
    let size = c.requires.ready.field.size in
    let still : c.if-len.self.trees ≡ c.args.self.now.trees = elim c.if-len.branch [
      | then-len w ↦ rw w.self-is c.loop-left.invariant.trees
      | else-len w ↦ rw w.self-is c.loop-left.invariant.trees
    ] in
    record {
      field = rw still (field-further c.requires.ready.field further passed.visited.alive);
      rested = c.settle.ensures p (planes_have now)
          (elim c.if-len.branch [
            | then-len w ↦ rw w.self-is (rested-woken w.lost-zeros.ensures.lawful w.lost-zeros.ensures.zeros w.lost-zeros.ensures.ones w.woken-self.ensures
                c.requires.ready.field.lawful size (sym c.len-len.ensures.len) c.requires.ready.field.alive passed.visited.alive further before)
            | else-len w ↦
                let same : now.len ≡ c.args.planes.now.len = omega (arith, further.grows, w.if-len.false, c.len.ensures.len, c.len-len.ensures.len) in
                rw (w.self-is, further.same same) before
          ])
          (quiet-done (kind-quiet p c.requires.ready.field.lawful c.args.kind) (kind_houses p c.args.kind) (kind-each p c.requires.ready.field.lawful c.args.kind)
          (rw size refl) c.requires.ready.field.alive (omega arith) (whole g (goal.at.returns-clause-ready g c).After-settle));
    }
