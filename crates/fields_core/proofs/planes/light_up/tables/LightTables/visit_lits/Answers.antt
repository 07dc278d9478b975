use Rattle.fields_core.proofs.Common.{AreIdle, ArePlanesOf, AreSafe, CountHouse, IsColumnRun, IsRowRun, List, and-true, and_parts, arith, cases_Bool, eqb, eqb-true, false, planes_have, has_bit, inl, inr, joined_in_column, joined_in_row, light_cells, lit_house, not, or_cases, refl, sym, true, true≢false, ℕ, ◌&&◌, ◌*◌, ◌+◌, ◌<◌, ◌∙◌, ◌≡◌}
use Rattle.fields_core.proofs.IdleLemmas.{fewer-on, passed-all, passed-broken, passed-first, passed-next, rest-off, rest-on, visited-idle}
use Rattle.fields_core.proofs.LightSafeCells.{column-line, row-line, row-moved, table-read}
use Rattle.fields_core.proofs.LightSweeps.{column-safe, lit-all, lit-kept, lit-stays, lits-safe, planes-full, planes-next, row-safe}
use Rattle.fields_core.proofs.VisitLemmas.{IsBinaryAlive}
use Rattle.fields_core.proofs.planes.light_up.tables.LightTables.visit_lits.Goals as goal
use Rattle.fields_core.proofs.planes.light_up.tables.LightTables.visit_lits.Goals.{After-either-met, After-is_safe, After-without_lowest-left}

module _ (g : _) (c : After-without_lowest-left g) where
  abbrev houses : ℕ → List CountHouse
  houses x = lit_house c.args.puzzle.now (c.args.y * c.args.puzzle.now.size.w + x)

  pub x-in : c.lowest-x.result < c.args.puzzle.now.size.w
  x-in = c.loop-ones.invariant.passed.inside c.lowest-x.result c.lowest-x.ensures.has

  pub without : (k : ℕ) → has_bit (g.W.Word.bits c.without_lowest-left.result) k ≡ (has_bit (g.W.Word.bits c.loop-ones.left) k && not (eqb k c.lowest-x.result))
  without k = c.without_lowest-left.ensures c.lowest-x.result k c.lowest-x.ensures

  -- those that are left then come after the lowest; others do not wait
  pub on : (k : ℕ) → has_bit (g.W.Word.bits c.without_lowest-left.result) k ≡ true → (c.lowest-x.result < k) × (k < c.args.puzzle.now.size.w)
  on k there = let w = rest-on c.lowest-x.ensures without k there in (w.0, c.loop-ones.invariant.passed.inside k w.1)

  pub off : (k : ℕ) → c.lowest-x.result < k → k < c.args.puzzle.now.size.w → has_bit (g.W.Word.bits c.without_lowest-left.result) k ≡ false → AreIdle (houses k) (planes_have c.loop-ones.planes)
  off k high lt gone =
      let passed = c.loop-ones.invariant.passed in
      passed.idle k (omega (arith, high, passed.behind c.lowest-x.result c.lowest-x.ensures.has)) lt (rest-off c.lowest-x.ensures without high gone)

  pub of : ArePlanesOf g.W.Word.room c.args.puzzle.now c.loop-ones.planes
  of = let v = c.loop-ones.invariant.passed.visited in planes-next c.requires.planes v.further v.alive

  pub still : (k : ℕ) → k < c.args.puzzle.now.size.w → AreIdle (houses k) (planes_have c.args.planes.now) → AreIdle (houses k) (planes_have c.loop-ones.planes)
  still k lt idle =
      let passed = c.loop-ones.invariant.passed in
      lit-stays c.requires.planes passed.line_in c.requires.y_in lt passed.visited idle

module _ (g : _) (c : After-is_safe g) (x_in : c.lowest-x.result < c.args.puzzle.now.size.w) where
  run-is : IsRowRun c.args.puzzle.now (c.args.y * c.args.puzzle.now.size.w + c.lowest-x.result) (g.W.Word.bits c.index-run.result.now)
  run-is =
      let p = c.args.puzzle.now in
      table-read g.W.Word.bits p (IsRowRun p) c.args.self.now.row_runs.items _ c.requires.tables.runs.long_rows c.requires.tables.runs.in_row
      c.requires.y_in x_in (rw (c.from.ensures, c.columns-w.ensures.value) refl) c.index-run.ensures

  -- where the run is passed, the houses of its cells are idle
  safe : c.is_safe.result ≡ true → AreSafe (joined_in_row c.args.puzzle.now (c.args.y * c.args.puzzle.now.size.w + c.lowest-x.result)) (planes_have c.args.planes.now)
  safe on = row-line c.args.puzzle.now c.args.y c.lowest-x.result x_in c.args.planes.now c.requires.planes.size _ _ _ (c.is_safe.ensures on) run-is
      c.row-zeros.ensures.cells c.row-ones.ensures.cells

  full : IsBinaryAlive (light_cells c.args.puzzle.now) (planes_have c.args.planes.now)
  full = planes-full c.args.puzzle.now c.args.planes.now c.requires.planes.size c.requires.planes.alive

  pub run-idle : c.is_safe.result ≡ true → (k : ℕ) → has_bit (g.W.Word.bits c.index-run.result.now) k ≡ true
      → AreIdle (lit_house c.args.puzzle.now (c.args.y * c.args.puzzle.now.size.w + k)) (planes_have c.args.planes.now)
  run-idle on k there =
      let p = c.args.puzzle.now in
      row-safe (c.args.y * p.size.w + k) c.requires.planes.lawful full (row-moved p c.args.y k x_in (g.W.Word.bits c.index-run.result.now) run-is there (safe on))

  pub own-idle : c.is_safe.result ≡ true → AreIdle (lit_house c.args.puzzle.now (c.args.y * c.args.puzzle.now.size.w + c.lowest-x.result)) (planes_have c.args.planes.now)
  own-idle on = row-safe (c.args.y * c.args.puzzle.now.size.w + c.lowest-x.result) c.requires.planes.lawful full (safe on)

pub loop-ones-init : goal.loop-ones-init
loop-ones-init g c = record {
  passed = passed-first (λ x. lit_house c.args.puzzle.now (c.args.y * c.args.puzzle.now.size.w + x)) c.requires.planes.alive c.requires.some_in c.requires.others;
  met = λ x on. absurd (true≢false (sym on ∙ c.none-met.ensures x));
}

pub visit_lit-requires-clause-planes : goal.visit_lit-requires-clause-planes
visit_lit-requires-clause-planes g c = let v = c.loop-ones.invariant.passed.visited in planes-next c.requires.planes v.further v.alive

pub loop-ones-smaller-then-is_safe : goal.loop-ones-smaller-then-is_safe
loop-ones-smaller-then-is_safe g c =
    let h = (goal.at.loop-ones-smaller-then-is_safe g c).After-without_lowest-left in
    fewer-on c.lowest-x.ensures (λ k there. (on g h k (and_parts _ _ (sym (c.but-left.ensures k) ∙ there)).0).0)

pub loop-ones-preserved-then-is_safe : goal.loop-ones-preserved-then-is_safe
loop-ones-preserved-then-is_safe g c =
    let h = (goal.at.loop-ones-preserved-then-is_safe g c).After-without_lowest-left in
    let a = (goal.at.loop-ones-preserved-then-is_safe g c).After-is_safe in let lt = x-in g h in
    let passed = c.loop-ones.invariant.passed in
    record {
      passed = passed-next (houses g h) passed c.lowest-x.ensures
          (visited-idle (houses g h c.lowest-x.result) passed.visited.alive (still g h c.lowest-x.result lt (own-idle g a lt c.if-is_safe.true))) refl _
          (λ k there. on g h k (and_parts _ _ (sym (c.but-left.ensures k) ∙ there)).0)
          (λ k high less gone. elim (cases_Bool (has_bit (g.W.Word.bits c.index-run.result.now) k)) [
            | inl there ↦ still g h k less (run-idle g a lt c.if-is_safe.true k there)
            | inr out ↦ off g h k high less (sym (c.but-left.ensures k ∙ rw out (and-true _)) ∙ gone)
          ]);
      met = c.loop-ones.invariant.met;
    }

pub loop-ones-smaller-then-is_safe-2 : goal.loop-ones-smaller-then-is_safe-2
loop-ones-smaller-then-is_safe-2 g c =
    let h = (goal.at.loop-ones-smaller-then-is_safe-2 g c).After-without_lowest-left in
    fewer-on c.lowest-x.ensures (λ k there. (on g h k there).0)

pub loop-ones-smaller : goal.loop-ones-smaller
loop-ones-smaller g c =
    let h = (goal.at.loop-ones-smaller g c).After-without_lowest-left in
    fewer-on c.lowest-x.ensures (λ k there. (on g h k there).0)

-- two cells of its column run can have a bulb, or one must
column : (g : _) (c : After-either-met g) → c.lowest-x.result < c.args.puzzle.now.size.w → ArePlanesOf g.W.Word.room c.args.puzzle.now c.loop-ones.planes
    → AreSafe (joined_in_column c.args.puzzle.now (c.args.y * c.args.puzzle.now.size.w + c.lowest-x.result)) (planes_have c.loop-ones.planes)
column g c lt planes =
    let p = c.args.puzzle.now in
    column-line p c.args.y c.lowest-x.result lt c.loop-ones.planes planes.size _ _ _ (c.is_safe-else-is_safe.ensures c.if-is_safe-2.true)
    (table-read g.W.Word.bits p (IsColumnRun p) c.args.self.now.column_runs.items _ c.requires.tables.runs.long_columns c.requires.tables.runs.in_column
    c.requires.y_in lt (rw (c.from.ensures, c.columns-w.ensures.value) refl) c.index.ensures) c.column-else-is_safe.ensures.cells c.column.ensures.cells

pub loop-ones-preserved-then-is_safe-2 : goal.loop-ones-preserved-then-is_safe-2
loop-ones-preserved-then-is_safe-2 g c =
    let at = goal.at.loop-ones-preserved-then-is_safe-2 g c in
    let h = at.After-without_lowest-left in let p = c.args.puzzle.now in
    let safe = column g at.After-either-met (x-in g h) (of g h) in let passed = c.loop-ones.invariant.passed in
    record {
      passed = passed-next (houses g h) passed c.lowest-x.ensures (visited-idle (houses g h c.lowest-x.result) passed.visited.alive
          (column-safe _ c.requires.planes.lawful (planes-full p c.loop-ones.planes (of g h).size (of g h).alive) safe)) refl _ (on g h) (off g h);
      met = λ x there. elim (or_cases _ _ (sym (c.either-met.ensures x) ∙ there)) [
        | inl before ↦ c.loop-ones.invariant.met x before
        | inr own ↦ rw (eqb-true _ _ (sym (c.one.ensures x) ∙ own)) safe
      ];
    }

pub loop-ones-preserved : goal.loop-ones-preserved
loop-ones-preserved g c =
    let h = (goal.at.loop-ones-preserved g c).After-without_lowest-left in
    record {
      passed = passed-next (houses g h) c.loop-ones.invariant.passed c.lowest-x.ensures c.visit_lit.ensures c.if-not-visit_lit.false _ (on g h)
          (λ k high less gone. lit-kept (of g h) c.requires.y_in (x-in g h) less
          (rw c.if-not-visit_lit.false at c.visit_lit.ensures) (off g h k high less gone));
      met = λ x there. lits-safe _ (lit-all (of g h).lawful c.requires.y_in (x-in g h)) (of g h)
          (rw c.if-not-visit_lit.false at c.visit_lit.ensures) (c.loop-ones.invariant.met x there);
    }

pub returns-then-not-visit_lit-clause-visited : goal.returns-then-not-visit_lit-clause-visited
returns-then-not-visit_lit-clause-visited g c =
    let h = (goal.at.returns-then-not-visit_lit-clause-visited g c).After-without_lowest-left in
    passed-broken (houses g h) c.loop-ones.invariant.passed c.lowest-x.ensures c.visit_lit.ensures c.if-not-visit_lit.true

pub returns-clause-visited : goal.returns-clause-visited
returns-clause-visited g c =
    passed-all (λ x. lit_house c.args.puzzle.now (c.args.y * c.args.puzzle.now.size.w + x)) c.loop-ones.invariant.passed c.requires.planes.narrow (sym c.is_some.ensures ∙ c.loop-ones-test.false)
