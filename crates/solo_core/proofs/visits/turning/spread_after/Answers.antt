use Rattle.solo_core.proofs.Common.{and_parts, has_bit, has_in, not, sym, true, ◌∙◌, ◌≡◌}
use Rattle.solo_core.proofs.PartLemmas.{spread-left, spreading-more, spreading-none}
use Rattle.solo_core.proofs.visits.turning.spread_after.Goals as goal
use Rattle.solo_core.proofs.visits.turning.spread_after.Goals.{After-with_new_bit-done}

-- the value is one of those that are there
found : (c : After-with_new_bit-done) → has_bit c.loop-value.after c.in-Some.value ≡ true
found c = (and_parts (has_bit c.loop-value.after c.in-Some.value) (not (has_bit c.loop-value.done c.in-Some.value))
    (sym (c.without.ensures c.in-Some.value) ∙ c.in-Some.ensures.1)).0

pub loop-value-init : goal.loop-value-init
loop-value-init c = spreading-none (has_in c.args.leads.now) c.requires.root c.with_bit-after.ensures

pub returns-then-after-left : goal.returns-then-after-left
returns-then-after-left c =
    let d = (goal.at.returns-then-after-left c).After-with_new_bit-done in
    spread-left c.args.leads.now
    (spreading-more c.args.leads.now c.loop-value.invariant c.in-Some.value c.requires.left (found d) c.with_new_bit-done.ensures.bits) c.if-after-left.true

pub loop-value-preserved : goal.loop-value-preserved
loop-value-preserved c =
    let d = (goal.at.loop-value-preserved c).After-with_new_bit-done in
    spreading-more c.args.leads.now c.loop-value.invariant c.in-Some.value c.requires.left (found d) c.with_new_bit-done.ensures.bits
