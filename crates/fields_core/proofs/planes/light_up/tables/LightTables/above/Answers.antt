use Rattle.fields_core.proofs.Common.{arith, sym, ◌+◌, ◌-◌, ◌∙◌}
use Rattle.fields_core.proofs.LightReach.{IsLive, live-first, live-more, live-parted}
use Rattle.fields_core.proofs.CellLemmas.{rows-read}
use Rattle.fields_core.proofs.planes.light_up.tables.LightTables.above.Goals as goal
use Rattle.fields_core.proofs.planes.light_up.tables.LightTables.above.Goals.{After-is_some}

pub loop-first-init : goal.loop-first-init
loop-first-init g c = record {
  up = omega arith;
  live = live-first c.args.puzzle.now _ _ _ (rows-read g.W.Word.bits _ c.requires.low_in c.requires.tables.rows c.index.ensures) c.both-live.ensures;
}

next : (g : _) (c : After-is_some g) → IsLive c.args.puzzle.now (g.W.Word.bits c.args.columns) (c.loop-first.first - 1) (c.args.low + 1) (g.W.Word.bits c.both-live-in-loop-first.result)
next g c =
    let up = c.loop-first.invariant.up in let more = c.loop-first-test.true in
    live-more c.args.puzzle.now _ (c.loop-first.first - 1) (c.args.low + 1) _ _ _
    (rows-read g.W.Word.bits _ {y = (c.loop-first.first - 1)} (omega (arith, c.requires.low_in)) c.requires.tables.rows c.index-in-loop-first.ensures) c.both-live-in-loop-first.ensures
    (omega arith) (omega arith) (omega arith) (omega arith) c.loop-first.invariant.live

pub returns-then-not-is_some-clause-apart : goal.returns-then-not-is_some-clause-apart
returns-then-not-is_some-clause-apart g c = λ y less x lt on.
    let up = c.loop-first.invariant.up in
    live-parted c.args.puzzle.now _ _ y c.args.low
    (next g (goal.at.returns-then-not-is_some-clause-apart g c).After-is_some) (sym c.is_some.ensures ∙ c.if-not-is_some.true) c.requires.narrow lt on (omega arith) (omega arith)

pub loop-first-preserved : goal.loop-first-preserved
loop-first-preserved g c =
    let up = c.loop-first.invariant.up in
    record { up = omega arith; live = next g (goal.at.loop-first-preserved g c).After-is_some }
