use Rattle.engine_core.proofs.Common.{arith, false, is_waiting, length, replicate, rules, sym, true≢false, ℕ, ◌<◌, ◌∙◌, ◌≡◌}
use Rattle.engine_core.proofs.QueueLemmas.{rested_around, rested_start}
use Rattle.engine_core.proofs.MarkLemmas.{waiting-all, waiting-none}
use Rattle.engine_core.proofs.trail.position.wait_from.Goals as goal

pub returns-in-None : goal.returns-in-None
returns-in-None g c = λ K.
    let made : c.fill.new.self ≡ replicate (length c.args.waits.now) 18446744073709551615 = search rules in
    rw c.in-None.is (rested_start (g.S.RuleSet.system (g.S.RuleSet.puzzle_of c.args.rules.now.set)) K (λ j lt asleep.
    absurd (true≢false (sym (rw made (waiting-all (length c.args.waits.now) j (omega (arith, c.requires.room)))) ∙ asleep))))

pub returns-in-Some : goal.returns-in-Some
returns-in-Some g c = λ K.
    let made : c.fill-in-Some.new.self ≡ replicate (length c.args.waits.now) 0 = search rules in
    let none : (j : ℕ) → j < (g.S.RuleSet.system (g.S.RuleSet.puzzle_of c.args.rules.now.set)).houses → is_waiting c.fill-in-Some.new.self j ≡ false =
    λ j lt. rw made (waiting-none (length c.args.waits.now) j (omega (arith, c.requires.room))) in
    rw c.in-Some.is (rested_around (g.met.S.RuleSet.lawful _ (g.met.S.RuleSet.knows c.args.rules.now.set)) c.in-Some.place none c.wake.ensures)
