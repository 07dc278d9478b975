use Rattle.solo_core.proofs.Common.{arith, both-bits, bit_and, length, nat_tests, slice_index, ◌<◌, ◌≡◌}
use Rattle.solo_core.proofs.SettledLemmas.{AreStruck, struck-counts, struck-first, struck-lone, struck-more, struck-outside, struck-peeled, struck-rest, struck-settled}
use Rattle.solo_core.proofs.visits.settle.strike_settled.Goals as goal
use Rattle.solo_core.proofs.visits.settle.strike_settled.Goals.{After-loop-i}

pub loop-i-init : goal.loop-i-init
loop-i-init c = record { struck = struck-first c.requires.settled c.of_settled-counts.ensures.some c.of_settled-counts.ensures.single c.of_settled-counts.ensures.shared }

pub loop-i-preserved : goal.loop-i-preserved
loop-i-preserved c =
    let sets = c.loop-i.sets in
    let cell = c.from-cell.result in
    let others = c.others_below-others.result in
    let lt : c.loop-i.i < length c.args.rest.now = omega arith in
    record {
      struck = struck-more c.requires.settled c.loop-i.invariant.struck lt c.from-cell.ensures (bit_and (slice_index sets cell) others) others
          (both-bits (slice_index sets cell) others)
          (λ v lv off. let e = c.others_below-others.ensures v in grind (arith, nat_tests))
          (λ v on. let e = c.others_below-others.ensures v in grind (arith, nat_tests))
          c.with-counts.ensures.some c.with-counts.ensures.single c.with-counts.ensures.shared (λ off. (grind (arith, nat_tests), grind (arith, nat_tests)));
    }

-- at the end the whole rest is struck
struck : (c : After-loop-i) → AreStruck c.args.values c.args.settled c.args.sets.now c.loop-i.sets c.args.rest.now
    (length c.args.rest.now) c.loop-i.counts.some c.loop-i.counts.single c.loop-i.counts.shared c.loop-i.is_struck
struck c = let all : c.loop-i.i ≡ length c.args.rest.now = omega arith in rw all at c.loop-i.invariant.struck

pub returns-clause-peeled : goal.returns-clause-peeled
returns-clause-peeled c = struck-peeled c.requires.settled (struck c)

pub returns-clause-settled : goal.returns-clause-settled
returns-clause-settled c = struck-settled c.requires.settled (struck c)

pub returns-clause-counts : goal.returns-clause-counts
returns-clause-counts c = struck-counts c.requires.settled (struck c)

pub returns-clause-rest : goal.returns-clause-rest
returns-clause-rest c = struck-rest c.requires.settled (struck c)

pub returns-clause-lone : goal.returns-clause-lone
returns-clause-lone c = struck-lone c.requires.settled (struck c) (omega arith)

pub returns-clause-outside : goal.returns-clause-outside
returns-clause-outside c = struck-outside c.requires.settled (struck c)

pub returns-clause-others : goal.returns-clause-others
returns-clause-others c = (struck c).narrowed.others
