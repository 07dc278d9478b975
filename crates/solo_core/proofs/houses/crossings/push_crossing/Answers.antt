use Rattle.solo_core.proofs.Common.{Block, arith, lists_house}
use Rattle.solo_core.proofs.houses.crossings.push_crossing.Goals as goal

pub push_rest-requires-clause-fits : goal.push_rest-requires-clause-fits
push_rest-requires-clause-fits c =
    let ok = c.in_ok-push_house.ensures.lawful in
    let long = (lists_house ok (Block c.args.block) c.requires.block_in).len in
    rw (c.in_ok-push_house.ensures.begun, c.requires.closed) (omega (arith, ok.n_high))
