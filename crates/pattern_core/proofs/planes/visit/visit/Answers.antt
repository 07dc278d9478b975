use Rattle.pattern_core.proofs.Common.{IsDecidedBy, and_parts, any_below-none, any_below-some, ap, arith, cases_Bool, clue_of, common_steps, has_bit, line_house, line_len, lt-ltb, ltb, ltb-true, not, not-true, or_parts, sets_by, sym, true, ℕ, ◌&&◌, ◌<◌, ◌||◌, ◌∙◌, ◌≡◌}
use Rattle.pattern_core.proofs.LineTakings.{both-taken, cells-in, kept-dead, left-alive, line-long, line-within, lost-at, taken-is, wide-in}
use Rattle.pattern_core.proofs.planes.visit.visit.Goals as goal
use Rattle.pattern_core.proofs.planes.visit.visit.Goals.{After-filter-kept}

-- how many cells the line has, and what is kept of them
count : (g : _) (c : After-filter-kept g) → c.line_len-count.result ≡ line_len c.args.rules.now.pattern.size c.args.line
count g c =
    let size = c.size-size.ensures in
    (rw (c.line_house-house.ensures, size) at c.line_len-count.ensures.cells) ∙ line-long c.args.rules.now.pattern.size c.args.line c.requires.line_in

decided : (g : _) (c : After-filter-kept g)
    → (let p = c.args.rules.now.pattern in let cells = λ (w b : ℕ). sets_by w b (line_len p.size c.args.line) in let bits = g.W.Word.bits in
    IsDecidedBy (clue_of p (line_house p.size c.args.line)) (cells (bits c.line.result) (bits c.line-2.result))
    (cells (bits c.filter-kept.result.white) (bits c.filter-kept.result.black)))
decided g c =
    let clue = rw (c.line_house-house.ensures, c.size-size.ensures) at c.clue.ensures in
    rw (clue, count g c) at c.filter-kept.ensures

pub returns-then-is_some-clause-visited : goal.returns-then-is_some-clause-visited
returns-then-is_some-clause-visited g c =
    let at = (goal.at.returns-then-is_some-clause-visited g c).After-filter-kept in
    let r = c.requires in let lawful = c.line.ensures.lawful in
    let kept = c.filter-kept.result in let bits = g.W.Word.bits in
    let w = any_below-some (has_bit (bits c.but.result)) g.W.Word.room (sym c.is_some.ensures ∙ c.if-is_some.true) in
    let parts = and_parts (ltb w.0 c.line_len-count.result) (not (has_bit (bits c.either.result) w.0)) (rw (c.all.ensures w.0) at (sym (c.but.ensures w.0) ∙ w.2)) in
    let none = or_parts _ _ (sym (c.either.ensures w.0) ∙ not-true _ parts.1) in
    kept-dead c.args.rules.now.pattern c.args.planes.now c.args.line r.size r.line_in (wide-in lawful r.size)
    (cells-in lawful r.size) _ _ (bits kept.white) (bits kept.black) c.line.ensures.cells c.line-2.ensures.cells (decided g at) w.0
    (rw (count g at) at (ltb-true _ _ parts.0)) none.0 none.1

pub returns-clause-visited : goal.returns-clause-visited
returns-clause-visited g c =
    let at = (goal.at.returns-clause-visited g c).After-filter-kept in let r = c.requires in
    let pat = c.args.rules.now.pattern in let p = c.args.planes.now in
    let line = c.args.line in let lawful = c.line.ensures.lawful in
    let kept = c.filter-kept.result in let bits = g.W.Word.bits in
    let d = decided g at in let wide = wide-in lawful r.size in
    let cells = cells-in lawful r.size in let inside = line-within line lawful r.size in
    let white = λ (k : ℕ). c.but-white.ensures k ∙ ap (λ b. b && not (has_bit (bits kept.white) k)) (c.line.ensures.cells k) in
    let black = λ (k : ℕ). c.but-black.ensures k ∙ ap (λ b. b && not (has_bit (bits kept.black) k)) (c.line-2.ensures.cells k) in
    let lw = bits c.but-white.result in let lb = bits c.but-black.result in
    let left = both-taken p c.take_any.new.planes c.take_any-2.new.planes _ _ r.size c.take_any.ensures.further.same_size c.take_any.ensures.left c.take_any-2.ensures.left in
    let whole : (k : ℕ) → k < line_len pat.size line → (has_bit (bits kept.white) k || has_bit (bits kept.black) k) ≡ true = λ k less.
    let off = any_below-none (has_bit (bits c.but.result)) g.W.Word.room (sym c.is_some.ensures ∙ c.if-is_some.false) k (omega (arith, less, rw r.size at c.line.ensures.fits)) in
    grind (arith, common_steps, cases_Bool, off, c.but.ensures k, c.all.ensures k, c.either.ensures k, lt-ltb k c.line_len-count.result (rw (count g at) less)) in
    let taken = taken-is pat p line r.size r.line_in wide cells _ _ (bits kept.white) (bits kept.black) c.line.ensures.cells c.line-2.ensures.cells d inside lw lb white black in (
      left ∙ taken,
      rw left (left-alive pat p line r.size r.line_in wide cells _ _ (bits kept.white) (bits kept.black) c.line.ensures.cells c.line-2.ensures.cells d inside lw lb white black r.alive whole),
      λ k. rw left (lost-at pat p line r.size r.line_in wide cells _ _ (bits kept.white) (bits kept.black) c.line.ensures.cells c.line-2.ensures.cells d inside lw lb white black (bits c.either-2.result) c.either-2.ensures k),
    )
