use Rattle.engine_core.proofs.Common.{arith}
use Rattle.engine_core.proofs.house_rules.HouseRules.wake.Goals as goal

pub join_place-requires-clause-marks : goal.join_place-requires-clause-marks
join_place-requires-clause-marks g c = c.marks-words.ensures.fit c.args.place c.requires.place_in

pub join_place-requires-clause-waits : goal.join_place-requires-clause-waits
join_place-requires-clause-waits g c = omega (arith, c.marks-words.ensures.as_many, c.requires.room)

pub returns : goal.returns
returns g c = c.marks-words.ensures.wake c.args.place _ _ c.requires.place_in c.join_place.ensures
