use Rattle.pattern_core.proofs.Common.{along, any_below-same, ap, ap₂, arith, led, length, set_with, sets_by, slots_of, subst, sym, ℕ, ◌&&◌, ◌||◌, ◌<◌, ◌∙◌, ◌≡◌}
use Rattle.pattern_core.proofs.LineWords.{IsCellShown, IsShownTo, led_with, length-sets, sets-at, sets-bit, shown-kept, shown-more, shown-none}
use Rattle.pattern_core.proofs.TableSteps.{reached_first, reached_next, row_next, shown_on}
use Rattle.pattern_core.proofs.planes.filter.Cells.keep.Goals as goal

pub loop-at-init : goal.loop-at-init
loop-at-init g c = (
  shown-none _ _ c.none-white.ensures,
  shown-none _ _ c.none-black.ensures,
  reached_first _ c.requires.below.first c.first-reached.ensures,
)

pub loop-at-preserved : goal.loop-at-preserved
loop-at-preserved g c =
    let has = slots_of g.P.Word.bits in let bits = g.W.Word.bits in
    let room = g.P.Word.room in let t = along has c.args.steps in
    let white = bits c.args.self.white in let black = bits c.args.self.black in
    let sets = sets_by white black c.args.count in let at = c.loop-at.at in
    let ways = c.ways_of-ways.result in let row = c.index-rows-at.result in
    let i = c.loop-at.invariant in let long = length-sets white black c.args.count in
    let lt : at < length sets = omega (arith, c.loop-at-test.true, long) in
    let after = row_next has t sets c.args.rows.now 1 at row c.requires.rows (omega arith) lt c.index-rows-at.is in
    let below = c.requires.below in
    let bit = λ (v : ℕ) (low : v < 2). sym (sets-bit white black c.args.count at v c.loop-at-test.true low) in
    let shown = shown_on room t sets (has c.loop-at.reached) at i.2 lt (has row) after in (
      shown-more (IsCellShown t white black c.args.count 0) c.is_some.result at i.0 c.with_if-white.ensures
          (shown 0 (has ways.white) _ _ (omega arith) below c.ways_of-ways.ensures.white (c.is_some.ensures ∙ any_below-same _ (λ p. has ways.white p && has row p) room (λ p low. c.both.ensures p)) (bit 0 (omega arith))),
      shown-more (IsCellShown t white black c.args.count 1) c.is_some-in-loop-at.result at i.1 c.with_if-black.ensures
          (shown 1 (has ways.black) _ _ (omega arith) below c.ways_of-ways.ensures.black (c.is_some-in-loop-at.ensures ∙ any_below-same _ (λ p. has ways.black p && has row p) room (λ p low. c.both-in-loop-at.ensures p)) (bit 1 (omega arith))),
      reached_next room t sets (has c.loop-at.reached) (has c.by_cell-reached.result) at below lt
          (λ p low. c.by_cell-reached.ensures p ∙ ap₂ (λ m n. (c.has.result && m) || (c.has-in-loop-at.result && n)) (c.ways_of-ways.ensures.white p low) (c.ways_of-ways.ensures.black p low)
          ∙ led_with t c.has.result c.has-in-loop-at.result (has c.loop-at.reached) p
          ∙ ap (λ s. led t s (has c.loop-at.reached) p) (ap₂ set_with c.has.ensures c.has-in-loop-at.ensures ∙ sym (sets-at white black c.args.count at c.loop-at-test.true))) i.2,
    )

pub returns : goal.returns
returns g c =
    let i = c.loop-at.invariant in let all : c.loop-at.at ≡ c.args.count = omega (arith, c.loop-at-test.false) in
    shown-kept _ _ _ c.args.count _ _ (subst (IsShownTo _ _) all i.0) (subst (IsShownTo _ _) all i.1) c.both-2.ensures c.both-3.ensures
