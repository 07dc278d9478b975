use Rattle.fields_core.proofs.Common.{Bool, and_parts, arith, false, planes_have, has_bit, lt-ltb, ltb, ltb-true, numbers_of_row, refl, sym, true, ℕ, ◌&&◌, ◌<◌, ◌∙◌, ◌≡◌}
use Rattle.fields_core.proofs.IdleLemmas.{fewer-on, from-on, from-off, passed-all, passed-broken, passed-first, passed-next, rest-off, rest-on}
use Rattle.fields_core.proofs.LightSweeps.{planes-next, ready-next}
use Rattle.fields_core.proofs.planes.light_up.light_notes.LightNotes.sweep_numbers.Goals as goal
use Rattle.fields_core.proofs.planes.light_up.light_notes.LightNotes.sweep_numbers.Goals.{After-but-left}
use Rattle.fields_core.proofs.CellLemmas.{first-off}

-- of the rows of the grid those that a word has
module _ (h : ℕ) (waits rows both : ℕ → Bool) (rows_are : (k : ℕ) → rows k ≡ ltb k h) (is : (k : ℕ) → both k ≡ (waits k && rows k)) where
  row-on : (k : ℕ) → both k ≡ true → k < h
  row-on k on = ltb-true _ _ (sym (rows_are k) ∙ (and_parts _ _ (sym (is k) ∙ on)).1)

  row-off : {k : ℕ} → k < h → both k ≡ false → waits k ≡ false
  row-off {k} lt off = first-off (rows_are k ∙ lt-ltb _ _ lt) (sym (is k) ∙ off)

pub loop-left-init : goal.loop-left-init
loop-left-init g c =
    let p = c.args.puzzle.now in let r = c.requires.ready in
    let all = rw (r.planes_of.size) at c.rows.ensures in
    record {
      passed = passed-first (numbers_of_row p) r.planes_of.alive (row-on p.size.h _ _ _ all c.both-left.ensures)
          (λ k lt off. r.rested.numbers k lt (row-off p.size.h _ _ _ all c.both-left.ensures lt off));
      ready = r;
      kept = refl;
    }

-- the rows that wait then
rows : (g : _) (c : After-but-left g) (k : ℕ) → has_bit (g.W.Word.bits c.rows-else-len.result) k ≡ ltb k c.args.puzzle.now.size.h
rows g c k = c.rows-else-len.ensures k ∙ rw (c.visit_numbers.ensures.further.same_size, c.loop-left.invariant.ready.planes_of.size) refl

behind : (g : _) (c : After-but-left g) (k : ℕ) → has_bit (g.W.Word.bits c.but-left.result) k ≡ true → (c.lowest-y.result < k) × (has_bit (g.W.Word.bits c.both.result) k ≡ true)
behind g c = from-on (has_bit (g.W.Word.bits c.both.result)) _ _ c.lowest-y.result c.all.ensures c.but-left.ensures

pub loop-left-smaller-then-len : goal.loop-left-smaller-then-len
loop-left-smaller-then-len g c = fewer-on c.lowest-y.ensures (λ k on. (rest-on c.lowest-y.ensures (λ k. c.without_lowest-left.ensures c.lowest-y.result k c.lowest-y.ensures) k on).0)

pub loop-left-preserved-then-len : goal.loop-left-preserved-then-len
loop-left-preserved-then-len g c =
    let p = c.args.puzzle.now in let i = c.loop-left.invariant in
    let passed = i.passed in let least = c.lowest-y.ensures in
    let visited = c.visit_numbers.ensures in
    let same = visited.further.same (sym c.len.ensures.len ∙ c.if-len.true ∙ c.len-len.ensures.len) in
    let rested = rw (← same) at i.ready.rested in
    let without = λ (k : ℕ). c.without_lowest-left.ensures c.lowest-y.result k least in
    record {
      passed = passed-next (numbers_of_row p) passed least visited c.if-not-visit_numbers.false _
          (λ k on. let w = rest-on least without k on in (w.0, passed.inside k w.1))
          (λ k high lt off. rw same (passed.idle k (omega (arith, high, passed.behind c.lowest-y.result least.has)) lt (rest-off least without high off)));
      ready = ready-next i.ready visited.further visited.alive _ refl
          (c.settle_numbers.ensures p (planes_have c.visit_numbers.new.planes) i.ready.planes_of.low rested (rw (← same) at (sym (visited.left c.if-not-visit_numbers.false))));
      kept = i.kept;
    }

pub loop-left-smaller : goal.loop-left-smaller
loop-left-smaller g c =
    let a = (goal.at.loop-left-smaller g c).After-but-left in fewer-on c.lowest-y.ensures (λ k on. (behind g a k on).0)

pub loop-left-preserved : goal.loop-left-preserved
loop-left-preserved g c =
    let a = (goal.at.loop-left-preserved g c).After-but-left in let p = c.args.puzzle.now in
    let i = c.loop-left.invariant in let visited = c.visit_numbers.ensures in
    let rested = c.wake.ensures p c.loop-left.planes (planes-next i.ready.planes_of visited.further visited.alive) i.ready.planes_of (sym c.len-len.ensures.len) visited.further i.ready.rested in
    record {
      passed = passed-next (numbers_of_row p) i.passed c.lowest-y.ensures visited c.if-not-visit_numbers.false _
          (λ k on. let w = behind g a k on in (w.0, row-on p.size.h _ _ _ (rows g a) c.both.ensures k w.1))
          (λ k high lt off. rested.numbers k lt (row-off p.size.h _ _ _ (rows g a) c.both.ensures lt
          (from-off (has_bit (g.W.Word.bits c.both.result)) _ _ c.lowest-y.result c.all.ensures c.but-left.ensures high off)));
      ready = ready-next i.ready visited.further visited.alive _ refl rested;
      kept = i.kept;
    }

pub returns-then-not-visit_numbers-clause-visited : goal.returns-then-not-visit_numbers-clause-visited
returns-then-not-visit_numbers-clause-visited g c =
    passed-broken (numbers_of_row c.args.puzzle.now) c.loop-left.invariant.passed c.lowest-y.ensures c.visit_numbers.ensures c.if-not-visit_numbers.true

pub returns-clause-visited : goal.returns-clause-visited
returns-clause-visited g c =
    passed-all (numbers_of_row c.args.puzzle.now) c.loop-left.invariant.passed c.requires.ready.planes_of.low (sym c.is_some.ensures ∙ c.loop-left-test.false)
