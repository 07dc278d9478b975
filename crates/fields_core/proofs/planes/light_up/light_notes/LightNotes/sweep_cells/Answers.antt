use Rattle.fields_core.proofs.Common.{ArePlanesOf, AreSafeInColumns, AreVisited, AreWhitesIdleBut, IsRowOf, ℕ, and_parts, ap, arith, cases_Bool, planes_have, has_bit, houses_below, inl, inr, light_cells, lit_house, lits_of_row, lt-ltb, ltb-true, not, or_cases, or_parts, place-in, refl, sym, true, true≢false, white, ◌*◌, ◌+◌, ◌<◌, ◌∙◌, ◌≡◌, ◌≤◌}
use Rattle.fields_core.proofs.IdleLemmas.{visited-skip}
use Rattle.fields_core.proofs.LightRuleLemmas.{light-board}
use Rattle.fields_core.proofs.LightSafeCells.{joined-down, safe-moved}
use Rattle.fields_core.proofs.LightReach.{away-from}
use Rattle.fields_core.proofs.LightHouseLaws.{line-start}
use Rattle.fields_core.specs.declared.planes.light_up.waits.RunKind.TheVariants.{Columns}
use Rattle.fields_core.proofs.LightSweeps.{black-idle, column-safe, lits-are, lits-done, lits-safe, lits-stay, out-idle, planes-full, planes-next, ready-next, row-lits, row-stays}
use Rattle.fields_core.proofs.CellLemmas.{first-off, rows-read, second-off}
use Rattle.fields_core.proofs.VisitLemmas.{sweep-broken, sweep-first, sweep-more}
use Rattle.fields_core.proofs.planes.light_up.light_notes.LightNotes.sweep_cells.Goals as goal
use Rattle.fields_core.proofs.planes.light_up.light_notes.LightNotes.sweep_cells.Goals.{After-whites-some, After-settle_whites}

module _ (g : _) (c : After-whites-some g) where
  pub y-in : c.loop-y.y < c.args.puzzle.now.size.h
  y-in = omega (arith, c.loop-y-test.true, c.reach-rows.ensures.within)

  pub whites : IsRowOf c.args.puzzle.now.size.w (white c.args.puzzle.now) c.loop-y.y (g.W.Word.bits c.index-whites.result.now)
  whites = rows-read g.W.Word.bits c.args.self.now.tables.rows.items y-in c.requires.ready.tables.rows c.index-whites.ensures

  -- the cells that are looked at are of the row
  pub some-in : (x : ℕ) → has_bit (g.W.Word.bits c.whites-some.result) x ≡ true → x < c.args.puzzle.now.size.w
  some-in x on =
      let left = and_parts _ _ (sym (c.whites-some.ensures x) ∙ on) in
      let own = and_parts _ _ (sym (c.but.ensures x) ∙ left.0) in
      ltb-true _ _ (and_parts _ _ (sym (whites x) ∙ own.0)).0

  pub of-now : ArePlanesOf g.W.Word.room c.args.puzzle.now c.loop-y.planes
  of-now = planes-next c.requires.ready.planes_of c.loop-y.invariant.visited.further c.loop-y.invariant.visited.alive

  -- the cells of the row that are passed
  pub passed : AreSafeInColumns c.args.puzzle.now c.loop-y.y (g.W.Word.bits c.both-above.result) (planes_have c.loop-y.planes)
  passed x on =
      let p = c.args.puzzle.now in
      let w = and_parts _ _ (sym (c.both-above.ensures x) ∙ on) in
      let own = and_parts _ _ (sym (whites x) ∙ w.1) in let v = c.loop-y.invariant.above x w.0 in
      let at : c.loop-y.y * p.size.w + x ≡ v.0 * p.size.w + x + p.size.w = rw (sym v.1) (omega arith) in
      let is_white : white p (c.loop-y.y * p.size.w + x) ≡ true = own.1 in
      rw at (safe-moved (joined-down p (v.0 * p.size.w + x) (light-board c.requires.ready.planes_of.lawful).some
      (line-start p Columns (v.0 * p.size.w + x) v.2.one v.2.one_in) (rw at at is_white)) v.2)

  -- a cell of the row that is not looked at
  pub idle : AreWhitesIdleBut c.args.puzzle.now (g.W.Word.bits c.whites-some.result) c.loop-y.y (planes_have c.loop-y.planes)
  idle x lt off = elim (cases_Bool (has_bit (g.W.Word.bits c.but.result) x)) [
    | inl left ↦
        let p = c.args.puzzle.now in let lines = or_parts _ _ (second-off left (sym (c.whites-some.ensures x) ∙ off)) in
        lits-stay c.requires.ready.planes_of (omega (arith, y-in)) y-in lt c.loop-y.invariant.visited
        (c.requires.ready.rested.whites (c.loop-y.y * p.size.w + x) (place-in p.size.w p.size.h c.loop-y.y x y-in lt)
        (away-from g.W.Word.bits p _ c.requires.ready.planes_of.lawful y-in lt (λ on. true≢false (sym on ∙ lines.0)) (λ k k_in on column joined. true≢false (sym column ∙ lines.1))))
    | inr gone ↦ elim (cases_Bool (has_bit (g.W.Word.bits c.both-above.result) x)) [
      | inl on ↦ column-safe _ of-now.lawful (planes-full c.args.puzzle.now c.loop-y.planes of-now.size of-now.alive) (passed x on)
      | inr out ↦ black-idle c.args.puzzle.now _ (planes_have c.loop-y.planes) (sym (whites x ∙ rw (lt-ltb _ _ lt) refl)
          ∙ first-off (ap not out) (sym (c.but.ensures x) ∙ gone))
    ]
  ]

pub loop-y-init : goal.loop-y-init
loop-y-init g c = record {
  visited = visited-skip (lits_of_row c.args.puzzle.now) (omega arith) (sweep-first (lits_of_row c.args.puzzle.now) c.requires.ready.planes_of.alive)
      (λ k at lt. out-idle c.requires.ready c.reach-rows.ensures k (omega (arith, lt, c.reach-rows.ensures.order, c.reach-rows.ensures.within)) (inl lt));
  above = λ x on. absurd (true≢false (sym on ∙ c.none-above.ensures x));
}

pub visit_lits-requires-clause-planes : goal.visit_lits-requires-clause-planes
visit_lits-requires-clause-planes g c = of-now g (goal.at.visit_lits-requires-clause-planes g c).After-whites-some

pub visit_lits-requires-clause-some_in : goal.visit_lits-requires-clause-some_in
visit_lits-requires-clause-some_in g c = some-in g (goal.at.visit_lits-requires-clause-some_in g c).After-whites-some

pub visit_lits-requires-clause-others : goal.visit_lits-requires-clause-others
visit_lits-requires-clause-others g c = idle g (goal.at.visit_lits-requires-clause-others g c).After-whites-some

pub loop-y-preserved : goal.loop-y-preserved
loop-y-preserved g c =
    let p = c.args.puzzle.now in let h = (goal.at.loop-y-preserved g c).After-whites-some in
    record {
      visited = sweep-more (lits_of_row p) c.loop-y.invariant.visited c.in-Some.ensures.visited refl;
      above = λ x on. (
        c.loop-y.y,
        refl,
        elim (or_cases _ _ (sym (c.either-above.ensures x) ∙ on)) [
          | inl before ↦ lits-safe (lits_of_row p c.loop-y.y) (row-lits (of-now g h).lawful (y-in g h)) (of-now g h) c.in-Some.ensures.visited (passed g h x before)
          | inr met ↦ c.in-Some.ensures.met x met
        ],
      );
    }

pub returns-in_default-clause-visited : goal.returns-in_default-clause-visited
returns-in_default-clause-visited g c =
    let p = c.args.puzzle.now in
    rw (lits-are p) at (sweep-broken (lits_of_row p) c.loop-y.invariant.visited c.in_default.ensures.visited refl
    (y-in g (goal.at.returns-in_default-clause-visited g c).After-whites-some))

-- all white cells are passed
whole : (g : _) (c : After-settle_whites g)
    → AreVisited (houses_below (lit_house c.args.puzzle.now) (light_cells c.args.puzzle.now)) c.args.planes.now c.loop-y.planes true
whole g c =
    let p = c.args.puzzle.now in let r = c.requires.ready in
    let i = c.loop-y.invariant in let reach = c.reach-rows.ensures in
    let last : c.loop-y.y ≡ c.reach-rows.result.1 = (let b = c.loop-y.auto.y-end in let e = c.loop-y-test.false in omega (arith, reach.order)) in
    let within : c.loop-y.y ≤ p.size.h = omega (arith, last, reach.within) in
    rw (lits-are p) at (visited-skip (lits_of_row p) within i.visited
    (λ k at lt. row-stays r.planes_of within lt i.visited (out-idle r reach k lt (inr (rw last at at)))))

pub returns-clause-visited : goal.returns-clause-visited
returns-clause-visited g c = whole g (goal.at.returns-clause-visited g c).After-settle_whites

pub returns-clause-ready : goal.returns-clause-ready
returns-clause-ready g c = λ _.
    let visited = whole g (goal.at.returns-clause-ready g c).After-settle_whites in
    let p = c.args.puzzle.now in let r = c.requires.ready in
    let of = planes-next r.planes_of visited.further visited.alive in
    let rested = c.wake.ensures p c.args.planes.now of r.planes_of (sym c.len-len.ensures.len) visited.further r.rested in
    ready-next r visited.further visited.alive _ refl (c.settle_whites.ensures p (planes_have c.loop-y.planes) rested (lits-done p r.planes_of visited))
