use Rattle.fields_core.proofs.Common.{AreVisited, Light, RunKind, and_parts, planes_have, houses_below, light_cells, lt-ltb, ltb-true, refl, run_houses, run_lines, sym, true, ℕ, ◌∙◌, ◌≤◌}
use Rattle.fields_core.specs.declared.planes.light_up.waits.RunKind.TheVariants.{Rows, Columns}
use Rattle.fields_core.proofs.IdleLemmas.{fewer-on, passed-all, passed-broken, passed-first, rest-on}
use Rattle.fields_core.proofs.HouseOrder.{quiet-next, singles-quiet}
use Rattle.fields_core.proofs.LightSweeps.{planes-next, ready-next, runs-done, runs-single}
use Rattle.fields_core.proofs.planes.light_up.light_notes.LightNotes.sweep_runs.Goals as goal
use Rattle.fields_core.proofs.planes.light_up.light_notes.LightNotes.sweep_runs.Goals.{After-settle_runs}
use Rattle.fields_core.proofs.CellLemmas.{first-off}

pub loop-left-init : goal.loop-left-init
loop-left-init g c =
    let p = c.args.puzzle.now in let r = c.requires.ready in
    let all = c.lines.ensures p r.planes_of.size in
    record {
      passed = passed-first (run_houses p c.args.kind) r.planes_of.alive (λ k on. ltb-true _ _ (sym (all k) ∙ (and_parts _ _ (sym (c.both-left.ensures k) ∙ on)).1))
          (λ k lt off. r.rested.runs c.args.kind k lt (rw c.runs.ensures at (first-off (all k ∙ lt-ltb _ _ lt) (sym (c.both-left.ensures k) ∙ off))));
    }

pub visit_runs-requires-clause-planes : goal.visit_runs-requires-clause-planes
visit_runs-requires-clause-planes g c = let v = c.loop-left.invariant.passed.visited in planes-next c.requires.ready.planes_of v.further v.alive

pub visit_runs-requires-clause-line_in : goal.visit_runs-requires-clause-line_in
visit_runs-requires-clause-line_in g c = c.loop-left.invariant.passed.inside _ c.lowest.ensures.has

pub returns-then-not-visit_runs-clause-visited : goal.returns-then-not-visit_runs-clause-visited
returns-then-not-visit_runs-clause-visited g c =
    passed-broken (run_houses c.args.puzzle.now c.args.kind) c.loop-left.invariant.passed c.lowest.ensures c.visit_runs.ensures c.if-not-visit_runs.true

pub loop-left-smaller : goal.loop-left-smaller
loop-left-smaller g c = fewer-on c.lowest.ensures (λ k on. (rest-on c.lowest.ensures (λ k. c.without_lowest-left.ensures c.lowest.result k c.lowest.ensures) k on).0)

pub loop-left-preserved : goal.loop-left-preserved
loop-left-preserved g c =
    let p = c.args.puzzle.now in let kind = c.args.kind in
    let passed = c.loop-left.invariant.passed in let least = c.lowest.ensures in
    let without = λ (k : ℕ). c.without_lowest-left.ensures c.lowest.result k least in let of = c.requires.ready.planes_of in
    record {
      passed = quiet-next (singles-quiet (light_cells p)) (λ k lt. runs-single p kind k of.lawful lt) (rw of.size refl)
          passed least c.visit_runs.ensures c.if-not-visit_runs.false _ without;
    }

-- all of the kind are passed
whole : (g : _) (c : After-settle_runs g)
    → AreVisited (houses_below (run_houses c.args.puzzle.now c.args.kind) (run_lines c.args.puzzle.now c.args.kind)) c.args.planes.now c.loop-left.planes true
whole g c = passed-all (run_houses c.args.puzzle.now c.args.kind) c.loop-left.invariant.passed (few c.args.puzzle.now c.args.kind c.requires.ready.planes_of.narrow c.requires.ready.planes_of.low)
    (sym c.is_some.ensures ∙ c.loop-left-test.false)
  where
    few : (p : Light) (kind : RunKind) → p.size.w ≤ g.W.Word.room → p.size.h ≤ g.W.Word.room → run_lines p kind ≤ g.W.Word.room
    few p Rows narrow low = low
    few p Columns narrow low = narrow

pub returns-clause-visited : goal.returns-clause-visited
returns-clause-visited g c = whole g (goal.at.returns-clause-visited g c).After-settle_runs

pub returns-clause-ready : goal.returns-clause-ready
returns-clause-ready g c = λ _.
    let visited = whole g (goal.at.returns-clause-ready g c).After-settle_runs in
    let p = c.args.puzzle.now in let r = c.requires.ready in
    let of = planes-next r.planes_of visited.further visited.alive in
    let rested = c.wake.ensures p c.args.planes.now of r.planes_of (sym c.len-len.ensures.len) visited.further r.rested in
    ready-next r visited.further visited.alive _ refl (c.settle_runs.ensures p (planes_have c.loop-left.planes) rested (runs-done p c.args.kind r.planes_of visited))
