use Rattle.fields_core.proofs.Common.{arith, sym, ◌+◌, ◌<◌, ◌∙◌, ◌≡◌}
use Rattle.fields_core.proofs.LightReach.{IsLive, live-first, live-more, live-parted}
use Rattle.fields_core.proofs.CellLemmas.{rows-read}
use Rattle.fields_core.proofs.planes.light_up.tables.LightTables.below.Goals as goal
use Rattle.fields_core.proofs.planes.light_up.tables.LightTables.below.Goals.{After-from-h, After-is_some}

h-is : (g : _) (c : After-from-h g) → c.from-h.result ≡ c.args.puzzle.now.size.h
h-is g c = rw c.size.ensures.value at (c.from-h.ensures ∙ c.h.ensures.value)

pub loop-end-init : goal.loop-end-init
loop-end-init g c = record {
  down = omega arith;
  within = omega (arith, h-is g (goal.at.loop-end-init g c).After-from-h, c.requires.high_in);
  live = live-first c.args.puzzle.now _ _ _ (rows-read g.W.Word.bits _ c.requires.high_in c.requires.tables.rows c.index.ensures) c.both-live.ensures;
}

next : (g : _) (c : After-is_some g) → c.from-h.result ≡ c.args.puzzle.now.size.h → IsLive c.args.puzzle.now (g.W.Word.bits c.args.columns) c.args.high (c.loop-end.end + 1) (g.W.Word.bits c.both-live-in-loop-end.result)
next g c h_is =
    let down = c.loop-end.invariant.down in
    let lt : c.loop-end.end < c.args.puzzle.now.size.h = omega (arith, c.loop-end-test.true, h_is) in
    live-more c.args.puzzle.now _ c.args.high (c.loop-end.end + 1) _ _ _
    (rows-read g.W.Word.bits _ lt c.requires.tables.rows c.index-in-loop-end.ensures) c.both-live-in-loop-end.ensures
    (omega arith) (omega arith) (omega arith) (omega arith) c.loop-end.invariant.live

pub returns-then-not-is_some-clause-apart : goal.returns-then-not-is_some-clause-apart
returns-then-not-is_some-clause-apart g c = λ y more y_in x lt on.
    let down = c.loop-end.invariant.down in
    live-parted c.args.puzzle.now _ _ y c.args.high
    (next g (goal.at.returns-then-not-is_some-clause-apart g c).After-is_some (h-is g (goal.at.returns-then-not-is_some-clause-apart g c).After-from-h)) (sym c.is_some.ensures ∙ c.if-not-is_some.true) c.requires.narrow lt on (omega arith) (omega arith)

pub loop-end-preserved : goal.loop-end-preserved
loop-end-preserved g c =
    let down = c.loop-end.invariant.down in
    record {
      down = omega arith;
      within = omega (arith, c.loop-end-test.true);
      live = next g (goal.at.loop-end-preserved g c).After-is_some (h-is g (goal.at.loop-end-preserved g c).After-from-h);
    }
