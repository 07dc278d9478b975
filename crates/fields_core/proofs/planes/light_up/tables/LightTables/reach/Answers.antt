use Rattle.fields_core.proofs.Common.{and_from, arith, has_bit, lt-ltb, sym, true, ℕ, ◌<◌, ◌∙◌, ◌≡◌}
use Rattle.fields_core.proofs.LightReach.{between, reach-from, reach-none}
use Rattle.fields_core.proofs.planes.light_up.tables.LightTables.reach.Goals as goal
use Rattle.fields_core.proofs.planes.light_up.tables.LightTables.reach.Goals.{After-is_some}

-- the rows of the lines that the grid has
rows : (g : _) (c : After-is_some g) (k : ℕ) → k < c.args.puzzle.now.size.h → has_bit (g.W.Word.bits c.args.lines.rows) k ≡ true → has_bit (g.W.Word.bits c.both-rows.result) k ≡ true
rows g c k lt on = c.both-rows.ensures k ∙ and_from _ _ on (c.rows.ensures k ∙ lt-ltb k _ (rw (c.requires.planes.size) lt))

pub returns-then-not-is_some : goal.returns-then-not-is_some
returns-then-not-is_some g c =
    reach-none g.W.Word.bits c.args.puzzle.now c.args.lines c.requires.planes.lawful (has_bit (g.W.Word.bits c.both-rows.result)) c.requires.planes.low
    (rows g (goal.at.returns-then-not-is_some g c).After-is_some) (sym c.is_some.ensures ∙ c.if-not-is_some.true)

pub returns : goal.returns
returns g c =
    let p = c.args.puzzle.now in let at = rows g (goal.at.returns g c).After-is_some in
    let low = c.lowest.result in let high = c.highest.result in
    let least = c.lowest.ensures in
    reach-from g.W.Word.bits p c.args.lines c.requires.planes.lawful c.above-first.ensures.up c.below.ensures.down c.below.ensures.within
    (c.highest.ensures.last low least.within least.has)
    (λ k k_in on. (between least k (at k k_in on), c.highest.ensures.last k (omega (arith, k_in, c.requires.planes.low)) (at k k_in on)))
    c.above-first.ensures.apart c.below.ensures.apart
