use Rattle.solo_core.proofs.Common.{all_places, arith, crossings_of}
use Rattle.solo_core.proofs.HouseLemmas.{listed-more}
use Rattle.solo_core.proofs.CrossingLemmas.{crossing-listed, crossings-listed}
use Rattle.solo_core.proofs.houses.crossings.push_crossings.Goals as goal

pub loop-number-preserved : goal.loop-number-preserved
loop-number-preserved c =
    let p = c.args.puzzle.now in
    let e = c.crossings-number-end.ensures.count in
    listed-more _ (all_places (crossings_of p)) c.loop-number.number (omega (arith, crossings-listed p))
    (crossing-listed p c.loop-number.number _ _ (omega arith) c.crossing_at-block.ensures.scope) c.loop-number.invariant c.in_ok-push_crossing.ensures
