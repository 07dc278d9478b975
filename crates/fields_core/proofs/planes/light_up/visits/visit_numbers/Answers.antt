use Rattle.fields_core.proofs.Common.{CountHouse, IsRowOf, List, and_parts, arith, planes_have, has_bit, is_numbered, ltb-true, number_house, sym, true, ℕ, ◌*◌, ◌+◌, ◌<◌, ◌∙◌, ◌≡◌}
use Rattle.fields_core.proofs.IdleLemmas.{fewer-on, from-on, from-off, passed-all, passed-broken, passed-first, passed-next, rest-off, rest-on}
use Rattle.fields_core.proofs.LightReach.{numbers-all, numbers-both}
use Rattle.fields_core.proofs.CellLemmas.{rows-read}
use Rattle.fields_core.proofs.planes.light_up.visits.visit_numbers.Goals as goal
use Rattle.fields_core.proofs.planes.light_up.visits.visit_numbers.Goals.{After-both-left, After-but-left}

module _ (g : _) (c : After-both-left g) where
  abbrev houses : ℕ → List CountHouse
  houses x = number_house c.args.puzzle.now (c.args.y * c.args.puzzle.now.size.w + x)

  pub own : IsRowOf c.args.puzzle.now.size.w (is_numbered c.args.puzzle.now) c.args.y (g.W.Word.bits c.index-own.result.now)
  own = rows-read g.W.Word.bits c.args.tables.now.numbers.items c.requires.y_in c.requires.tables.numbers (rw (c.from.ensures) at c.index-own.ensures)

  pub own-in : (x : ℕ) → has_bit (g.W.Word.bits c.index-own.result.now) x ≡ true → x < c.args.puzzle.now.size.w
  own-in x on = ltb-true _ _ (and_parts _ _ (sym (own x) ∙ on)).0

pub loop-own-init : goal.loop-own-init
loop-own-init g c =
    let h = (goal.at.loop-own-init g c).After-both-left in
    record {
      passed = passed-first (houses g h) c.requires.planes.alive (λ x on. own-in g h x (and_parts _ _ (sym (c.both-left.ensures x) ∙ on)).0)
          (numbers-both c.args.puzzle.now c.args.y _ _ _ (planes_have c.args.planes.now) (own g h) c.requires.others c.both-left.ensures);
    }

pub overflow_cast-x : goal.overflow_cast-x
overflow_cast-x g c = omega (arith, c.loop-own.invariant.passed.inside c.lowest-x.result c.lowest-x.ensures.has, c.requires.planes.lawful.size.extent.w_high)

pub visit_number-requires-clause-x_in : goal.visit_number-requires-clause-x_in
visit_number-requires-clause-x_in g c = c.loop-own.invariant.passed.inside _ c.lowest-x.ensures.has

pub returns-then-not-visit_number : goal.returns-then-not-visit_number
returns-then-not-visit_number g c =
    let h = (goal.at.returns-then-not-visit_number g c).After-both-left in
    passed-broken (houses g h) c.loop-own.invariant.passed c.lowest-x.ensures c.visit_number.ensures c.if-not-visit_number.true

-- once one has taken something, all that follow are left
behind : (g : _) (c : After-but-left g) (k : ℕ) → has_bit (g.W.Word.bits c.but-left.result) k ≡ true
    → (c.lowest-x.result < k) × (has_bit (g.W.Word.bits c.index-own.result.now) k ≡ true)
behind g c = from-on (has_bit (g.W.Word.bits c.index-own.result.now)) _ _ c.lowest-x.result c.all.ensures c.but-left.ensures

pub loop-own-smaller-then-len : goal.loop-own-smaller-then-len
loop-own-smaller-then-len g c =
    let a = (goal.at.loop-own-smaller-then-len g c).After-but-left in fewer-on c.lowest-x.ensures (λ k on. (behind g a k on).0)

pub loop-own-preserved-then-len : goal.loop-own-preserved-then-len
loop-own-preserved-then-len g c =
    let h = (goal.at.loop-own-preserved-then-len g c).After-both-left in
    let a = (goal.at.loop-own-preserved-then-len g c).After-but-left in
    record {
      passed = passed-next (houses g h) c.loop-own.invariant.passed c.lowest-x.ensures c.visit_number.ensures c.if-not-visit_number.false _
          (λ k on. let w = behind g a k on in (w.0, own-in g h k w.1))
          (λ k high lt off. numbers-all c.args.puzzle.now c.args.y _ (planes_have c.visit_number.new.planes) (own g h) k lt
          (from-off (has_bit (g.W.Word.bits c.index-own.result.now)) _ _ c.lowest-x.result c.all.ensures c.but-left.ensures high off));
    }

pub loop-own-smaller : goal.loop-own-smaller
loop-own-smaller g c = fewer-on c.lowest-x.ensures (λ k on. (rest-on c.lowest-x.ensures (λ k. c.without_lowest-left.ensures c.lowest-x.result k c.lowest-x.ensures) k on).0)

pub loop-own-preserved : goal.loop-own-preserved
loop-own-preserved g c =
    let h = (goal.at.loop-own-preserved g c).After-both-left in
    let passed = c.loop-own.invariant.passed in let least = c.lowest-x.ensures in
    let without = λ (k : ℕ). c.without_lowest-left.ensures c.lowest-x.result k least in
    record {
      passed = passed-next (houses g h) passed least c.visit_number.ensures c.if-not-visit_number.false _
          (λ k on. let w = rest-on least without k on in (w.0, passed.inside k w.1))
          (λ k high lt off. rw (c.visit_number.ensures.further.same (sym c.len.ensures.len ∙ c.if-len.false ∙ c.len-len.ensures.len))
          (passed.idle k (omega (arith, high, passed.behind c.lowest-x.result least.has)) lt (rest-off least without high off)));
    }

pub returns : goal.returns
returns g c =
    let h = (goal.at.returns g c).After-both-left in
    passed-all (houses g h) c.loop-own.invariant.passed c.requires.planes.narrow (sym c.is_some.ensures ∙ c.loop-own-test.false)
