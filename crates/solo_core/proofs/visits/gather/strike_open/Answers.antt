use Rattle.solo_core.proofs.Common.{AreSettledBut, arith, bit_and, both-bits, length, length-set, nat_tests, refl, slice_index, take, true, true≢false, ◌∙◌, ◌≡◌}
use Rattle.solo_core.specs.Bits.{NoneIsSet}
use Rattle.solo_core.specs.OpenHouses.{ListsBits}
use Rattle.solo_core.proofs.OpenLemmas.{open-settled}
use Rattle.solo_core.proofs.OpenListLemmas.{left-first, left-in, left-more, left-next, left-none, set_below, set_below-few, set_below-lists}
use Rattle.solo_core.proofs.SettledLemmas.{AreStruck, kept-all, same-while, struck-counts, struck-lone, struck-more, struck-none, struck-outside, struck-peeled, struck-rest, struck-settled}
use Rattle.solo_core.proofs.visits.gather.strike_open.Goals as goal
use Rattle.solo_core.proofs.visits.gather.strike_open.Goals.{After-of_settled-counts, At-loop-cell}

-- the open cells are listed, and the others are settled
lists : (c : After-of_settled-counts) → ListsBits c.args.house.cells (set_below c.args.house.cells c.args.values)
lists c = set_below-lists c.args.house.cells c.args.values c.requires.house.cells_in

settled : (c : After-of_settled-counts) → AreSettledBut c.args.values c.args.sets.now (set_below c.args.house.cells c.args.values) (length c.args.sets.now) c.args.settled
settled c = open-settled c.requires.house c.requires.square (lists c) (set_below-few c.args.house.cells c.args.values) c.requires.settled

pub loop-cell-init : goal.loop-cell-init
loop-cell-init c =
    let d = (goal.at.loop-cell-init c).After-of_settled-counts in
    record {
      room = refl;
      left = left-first (lists d) c.args.rest.now;
      struck = struck-none (settled d) c.of_settled-counts.ensures.some c.of_settled-counts.ensures.single c.of_settled-counts.ensures.shared;
      same = λ _. refl;
    }

pub loop-cell-preserved : goal.loop-cell-preserved
loop-cell-preserved c =
    let d = (goal.at.loop-cell-preserved c).After-of_settled-counts in
    let i = c.loop-cell.invariant in
    let at = c.in-Some.ensures in
    let cell = c.in-Some.cell in
    let next = left-next (lists d) i.left cell at.2 at.3 in
    let few = set_below-few c.args.house.cells c.args.values in
    let open_values = c.args.house.values in
    let set = bit_and (slice_index c.loop-cell.sets cell) open_values in
    record {
      room = length-set c.loop-cell.rest c.loop-cell.count cell ∙ i.room;
      left = left-more (lists d) i.left next.0 next.1 (omega (arith, next.0, few, i.room, c.requires.room)) (c.without_first-left.ensures cell at);
      struck = struck-more (settled d) i.struck next.0 next.1 set open_values
          (both-bits (slice_index c.loop-cell.sets cell) open_values)
          (λ v lv off. let e = c.requires.settled v in grind (arith, nat_tests))
          (λ v on. let e = c.requires.settled v in grind (arith, nat_tests))
          c.with-counts.ensures.some c.with-counts.ensures.single c.with-counts.ensures.shared (λ off. absurd (true≢false off));
      same = same-while c.loop-cell.had open_values cell i.same;
    }

pub bounds-rest-count : goal.bounds-rest-count
bounds-rest-count c =
    let i = c.loop-cell.invariant in
    let at = c.in-Some.ensures in
    let next = left-next (lists (goal.at.bounds-rest-count c).After-of_settled-counts) i.left c.in-Some.cell at.2 at.3 in
    omega (arith, next.0, set_below-few c.args.house.cells c.args.values, i.room, c.requires.room)

-- at the end all open cells are listed, and struck
taken : (c : At-loop-cell) → NoneIsSet c.loop-cell.left 0 32
    → (c.loop-cell.count ≡ length (set_below c.args.house.cells c.args.values)) × (take c.loop-cell.count c.loop-cell.rest ≡ set_below c.args.house.cells c.args.values)
taken c none =
    let all = set_below-lists c.args.house.cells c.args.values c.requires.house.cells_in in
    left-none all c.loop-cell.invariant.left 32 (λ t lt. omega (arith, c.requires.house.cells_in _ (all.set t lt), c.requires.few)) none

struck : (c : At-loop-cell) → NoneIsSet c.loop-cell.left 0 32
    → AreStruck c.args.values c.args.settled c.args.sets.now c.loop-cell.sets (set_below c.args.house.cells c.args.values)
    (length (set_below c.args.house.cells c.args.values)) c.loop-cell.counts.some c.loop-cell.counts.single c.loop-cell.counts.shared true
struck c none = rw (taken c none).0 at c.loop-cell.invariant.struck

pub returns-clause-few : goal.returns-clause-few
returns-clause-few c =
    let d = (goal.at.returns-clause-few c).At-loop-cell in
    let none = c.in_default.ensures in
    omega (arith, (taken d none).0, set_below-few c.args.house.cells c.args.values)

pub returns-clause-listed : goal.returns-clause-listed
returns-clause-listed c =
    let d = (goal.at.returns-clause-listed c).At-loop-cell in
    let b = (goal.at.returns-clause-listed c).After-of_settled-counts in
    let none = c.in_default.ensures in
    rw (taken d none).1 (lists b)

pub returns-clause-peeled : goal.returns-clause-peeled
returns-clause-peeled c =
    let d = (goal.at.returns-clause-peeled c).At-loop-cell in
    let b = (goal.at.returns-clause-peeled c).After-of_settled-counts in
    let none = c.in_default.ensures in
    struck-peeled (settled b) (struck d none)

pub returns-clause-counts : goal.returns-clause-counts
returns-clause-counts c =
    let d = (goal.at.returns-clause-counts c).At-loop-cell in
    let b = (goal.at.returns-clause-counts c).After-of_settled-counts in
    let none = c.in_default.ensures in
    struck-counts (settled b) (struck d none)

pub returns-clause-settled : goal.returns-clause-settled
returns-clause-settled c =
    let d = (goal.at.returns-clause-settled c).At-loop-cell in
    let b = (goal.at.returns-clause-settled c).After-of_settled-counts in
    let none = c.in_default.ensures in
    rw (taken d none).1 (struck-settled (settled b) (struck d none))

pub returns-clause-rest : goal.returns-clause-rest
returns-clause-rest c =
    let d = (goal.at.returns-clause-rest c).At-loop-cell in
    let b = (goal.at.returns-clause-rest c).After-of_settled-counts in
    let none = c.in_default.ensures in
    rw (taken d none).1 (struck-rest (settled b) (struck d none))

pub returns-clause-lone : goal.returns-clause-lone
returns-clause-lone c =
    let d = (goal.at.returns-clause-lone c).At-loop-cell in
    let b = (goal.at.returns-clause-lone c).After-of_settled-counts in
    let none = c.in_default.ensures in
    struck-lone (settled b) (struck d none) (omega arith)

pub returns-clause-outside : goal.returns-clause-outside
returns-clause-outside c =
    let d = (goal.at.returns-clause-outside c).At-loop-cell in
    let b = (goal.at.returns-clause-outside c).After-of_settled-counts in
    let none = c.in_default.ensures in
    rw (taken d none).1 (struck-outside (settled b) (struck d none))

pub returns-clause-same : goal.returns-clause-same
returns-clause-same c = λ off. c.loop-cell.invariant.same (kept-all c.loop-cell.had c.args.house.values c.without.ensures (grind (arith, nat_tests)))

pub returns-clause-others : goal.returns-clause-others
returns-clause-others c =
    let d = (goal.at.returns-clause-others c).At-loop-cell in
    let none = c.in_default.ensures in
    rw (taken d none).1 (struck d none).narrowed.others

pub bounds-sets-cell : goal.bounds-sets-cell
bounds-sets-cell c =
    let i = c.loop-cell.invariant in
    let b = (goal.at.bounds-sets-cell c).After-of_settled-counts in
    omega (arith, left-in (lists b) i.left c.args.values c.requires.house.cells_in c.in-Some.cell c.in-Some.ensures.2, c.requires.square, i.struck.narrowed.as_many)

pub bounds-sets-cell-in-Some : goal.bounds-sets-cell-in-Some
bounds-sets-cell-in-Some c =
    let i = c.loop-cell.invariant in
    let b = (goal.at.bounds-sets-cell-in-Some c).After-of_settled-counts in
    omega (arith, left-in (lists b) i.left c.args.values c.requires.house.cells_in c.in-Some.cell c.in-Some.ensures.2, c.requires.square, i.struck.narrowed.as_many)

pub bounds-sets-cell-in-Some-2 : goal.bounds-sets-cell-in-Some-2
bounds-sets-cell-in-Some-2 c =
    let i = c.loop-cell.invariant in
    let b = (goal.at.bounds-sets-cell-in-Some-2 c).After-of_settled-counts in
    omega (arith, left-in (lists b) i.left c.args.values c.requires.house.cells_in c.in-Some.cell c.in-Some.ensures.2, c.requires.square, i.struck.narrowed.as_many)
