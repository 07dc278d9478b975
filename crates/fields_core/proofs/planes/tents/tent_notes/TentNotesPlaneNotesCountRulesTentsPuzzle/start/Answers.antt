use Rattle.fields_core.proofs.Common.{Extent, IsNear, IsRowOf, Tents, ap, arith, length, length-set, not, refl, rules, tree, wants_tent, ◌<◌, ◌∙◌, ◌≡◌}
use Rattle.fields_core.proofs.CellLemmas.{rows-more}
use Rattle.fields_core.proofs.RuleLemmas.{row-blocked, start-all}
use Rattle.fields_core.proofs.TentTreeWords.{before-first, before-next, near-next, row-barred, row-wants}
use Rattle.fields_core.proofs.planes.tents.tent_notes.TentNotesPlaneNotesCountRulesTentsPuzzle.start.Goals as goal

pub loop-y-init : goal.loop-y-init
loop-y-init g c = record {
  started = search rules;
  size = search rules;
  room = search rules;
  trees = before-first _ _ c.cells_of_row.ensures.trees c.first-trees.ensures.none c.first-trees.ensures.below;
  others = before-first _ _ c.cells_of_row.ensures.others c.first-others.ensures.none c.first-others.ensures.below;
  written = search rules;
  long = refl;
}

pub loop-y-preserved : goal.loop-y-preserved
loop-y-preserved g c =
    let i = c.loop-y.invariant in let p : Tents = c.args.rules.now.puzzle in
    let y = c.loop-y.y in let bits = g.W.Word.bits in
    let pos = rw c.size-size.ensures.value at c.h-y-end.ensures.lawful.w_low in
    let h_is : c.h-y-end.result ≡ p.size.h = rw c.size-size.ensures.value at c.h-y-end.ensures.value in
    let low : y < p.size.h = omega (arith, h_is, c.loop-y-test.true) in
    let there : y < length c.loop-y.self.trees.items = omega (arith, low, i.long, c.requires.fits, c.requires.suited.1) in
    let wide : c.begin.new.self.size ≡ p.size = c.begin.ensures.fresh.same_size ∙ c.size-size.ensures.value in
    let below = rw c.from-row.ensures at c.cells_of_row-in-loop-y.ensures in
    let trees : IsNear bits p.size (tree p) y c.next-trees.result = near-next _ c.next-trees.ensures low i.trees below.trees in
    let others : IsNear bits p.size (λ d. not (tree p d)) y c.next-others.result = near-next _ c.next-others.ensures low i.others below.others in
    let wants : IsRowOf p.size.w (wants_tent p) y (bits c.both.result) =
    row-wants p y _ trees.own _ _ (λ x lt. c.some.ensures p.size _ y x c.requires.suited.0 lt others) c.both.ensures in
    record {
      started = row-blocked y (bits c.but-in-loop-y.result) (omega (arith, pos)) (ap (λ (s : Extent). s.w) i.size) i.started
          c.take.ensures.left
          (row-barred p y _ trees.own _ _ _ (λ x. c.columns-all.ensures x ∙ rw wide refl) (λ x lt. c.some-in-loop-y.ensures p.size _ y x c.requires.suited.0 lt trees)
          (λ x. c.but-in-loop-y.ensures x ∙ rw (c.but.ensures x) refl));
      size = c.take.ensures.further.same_size ∙ i.size;
      room = c.take.ensures.further.same_room ∙ i.room;
      trees = before-next trees;
      others = before-next others;
      written = rw c.from-row.ensures (rows-more bits c.loop-y.self.trees.items y (IsRowOf p.size.w (wants_tent p)) _ there i.written wants);
      long = length-set _ _ _ ∙ i.long;
    }

pub returns-clause-start : goal.returns-clause-start
returns-clause-start g c =
    let i = c.loop-y.invariant in
    let h_is : c.h-y-end.result ≡ c.args.rules.now.puzzle.size.h = rw c.size-size.ensures.value at c.h-y-end.ensures.value in
    let last : c.loop-y.y ≡ c.args.rules.now.puzzle.size.h = (let b = c.loop-y.auto.y-end in let e = c.loop-y-test.false in omega (arith, h_is)) in
    start-all i.started (rw last (omega arith))
