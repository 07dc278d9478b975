use Rattle.std.proofs.lemmas.Grind.{common_steps}
use Rattle.solo_core.proofs.Common.{arith, length-append, length-take, lists_house, places_of, take-length}
use Rattle.solo_core.proofs.HouseLemmas.{house-more}
use Rattle.solo_core.proofs.houses.lists.push_house.Goals as goal

pub push-requires-clause-fits : goal.push-requires-clause-fits
push-requires-clause-fits c =
    rw c.loop-k.invariant (simp (length-append, length-take) (omega (arith, c.n.ensures.lawful.n_high, (lists_house c.n.ensures.lawful c.args.house c.requires.house_of).len)))

pub loop-k-preserved : goal.loop-k-preserved
loop-k-preserved c =
    house-more c.args.list.now (places_of c.args.puzzle.now c.args.house) c.loop-k.k c.place.result
    (omega (arith, (lists_house c.n.ensures.lawful c.args.house c.requires.house_of).len)) c.place.ensures.place c.loop-k.invariant c.in_ok-push.ensures

pub returns-clause-begun : goal.returns-clause-begun
returns-clause-begun c = grind (arith, common_steps, lists_house, take-length, c.n.ensures.lawful, c.requires.house_of, c.loop-k.invariant)
