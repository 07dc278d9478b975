use Rattle.engine_core.proofs.Common.{arith, common_steps, drop, false, is_waiting, length, length-replicate, replicate, ℕ, ◌<◌, ◌∙◌, ◌≡◌}
use Rattle.engine_core.proofs.QueueLemmas.{alive_around, rested_around}
use Rattle.engine_core.proofs.MarkLemmas.{waiting-none, written-back}
use Rattle.engine_core.proofs.closing.closer.Closer.close_around.Goals as goal

pub run-requires-clause-alive : goal.run-requires-clause-alive
run-requires-clause-alive g c = let r = rw (← c.self.view_is) at c.requires in alive_around r.closed

-- the houses of the place wait at first
pub run-requires-clause-rested : goal.run-requires-clause-rested
run-requires-clause-rested g c =
    let p = g.R.Rules.system c.args.rules.now in
    let r = rw (← c.self.view_is) at c.requires in
    let v = c.self.inside.waits in
    let long = c.fill.ensures.len ∙ c.deref_mut.ensures.len in
    let filled = written-back v.len c.fill.new.self (drop (length c.fill.new.self) v.items) (omega (arith, v.ok.0, long)) in
    let made : c.fill.new.self ≡ replicate (length v.items) 0 =
    let all = c.fill.ensures.after (λ y same. same) in
    grind (arith, common_steps, length-replicate) in
    let none : (j : ℕ) → j < p.houses → is_waiting c.fill.new.self j ≡ false =
    λ j lt. rw made (waiting-none (length v.items) j (omega (arith, c.self.invariant.0.waits_long, r.fits.houses_in))) in
    rw (written-back v.len c.mark_at.new.waits _ (omega (arith, v.ok.0, long, c.deref_mut-2.ensures.len, c.mark_at.auto.waits)))
    (rested_around (g.met.R.Rules.lawful c.args.rules.now) c.args.place none (rw (c.deref_mut-2.ensures.value, filled) at c.mark_at.ensures) r.closed)
