use Rattle.solo_core.proofs.Common.{Given, None, Some, arith, fault_of, rules, sym, ◌∙◌}
use Rattle.solo_core.proofs.RepeatLemmas.{broken_first, given_first, givens_stand, house_after, house_first, houses_differ}
use Rattle.solo_core.proofs.check.first_fault.Goals as goal

pub returns-then-get-given-clause-fault : goal.returns-then-get-given-clause-fault
returns-then-get-given-clause-fault c =
    broken_first c.args.puzzle.now c.cells-place-end.ensures.lawful c.args.grid.now (Given c.loop-place.place) (search (rules, given_first))

pub returns-then-not-holds_each_once-clause-fault : goal.returns-then-not-holds_each_once-clause-fault
returns-then-not-holds_each_once-clause-fault c =
    let e = c.houses-number-end.ensures.value in
    rw c.fault_of.ensures
    (house_after c.args.puzzle.now c.cells-place-end.ensures.lawful c.args.grid.now c.requires.fits
    (givens_stand c.args.puzzle.now c.cells-place-end.ensures.lawful c.args.grid.now (λ q lt. c.loop-place.invariant q (omega arith))) (Some (fault_of c.house-house.result))
    (house_first c.args.puzzle.now c.houses-number-end.ensures.lawful c.args.grid.now c.loop-number.number c.house-house.result (omega arith)
    (c.house-house.ensures.at c.house-house.result) (sym c.holds_each_once.ensures ∙ c.if-not-holds_each_once.true) c.loop-number.invariant))

pub returns-clause-fault : goal.returns-clause-fault
returns-clause-fault c =
    let e = c.houses-number-end.ensures.value in
    house_after c.args.puzzle.now c.cells-place-end.ensures.lawful c.args.grid.now c.requires.fits
    (givens_stand c.args.puzzle.now c.cells-place-end.ensures.lawful c.args.grid.now (λ q lt. c.loop-place.invariant q (omega arith))) None
    (houses_differ c.args.puzzle.now c.houses-number-end.ensures.lawful c.args.grid.now (λ h d lt. c.loop-number.invariant h d (omega arith)))
