use Rattle.solo_core.proofs.Common.{AreLone, AreMetOutside, arith, bit_or, ◌∙◌}
use Rattle.solo_core.proofs.PeelLemmas.{lone-counts, peeled-more, rest-peeled, settled-peeled, with-settled}
use Rattle.solo_core.proofs.visits.peel.peel.Goals as goal
use Rattle.solo_core.proofs.visits.peel.peel.Goals.{After-lone, After-lone-2}

pub loop-turn-preserved : goal.loop-turn-preserved
loop-turn-preserved c =
    let i = c.loop-turn.invariant in
    let n = c.narrow_all-narrowed.ensures in
    record {
      peeled = peeled-more i.peeled n.peeled;
      counts = n.counts;
      settled = settled-peeled c.args.rest.now n.peeled n.others i.settled;
      rest = rest-peeled n.peeled n.others i.rest;
      others = λ k out. n.others k out ∙ i.others k out;
    }

pub returns-then-is_same-clause-others : goal.returns-then-is_same-clause-others
returns-then-is_same-clause-others c = λ k out. c.narrow_all-narrowed.ensures.others k out ∙ c.loop-turn.invariant.others k out

pub returns-then-is_same-clause-peeled : goal.returns-then-is_same-clause-peeled
returns-then-is_same-clause-peeled c = peeled-more c.loop-turn.invariant.peeled c.narrow_all-narrowed.ensures.peeled

pub returns-then-is_same-clause-rest : goal.returns-then-is_same-clause-rest
returns-then-is_same-clause-rest c =
    rest-peeled c.narrow_all-narrowed.ensures.peeled c.narrow_all-narrowed.ensures.others c.loop-turn.invariant.rest

-- the values that are told, once the counts are the same or nothing is open
told : (c : After-lone) → AreLone c.args.values c.narrow_all-narrowed.new.sets (bit_or c.lone.result c.args.settled)
    × AreMetOutside c.narrow_all-narrowed.new.sets c.args.rest.now (bit_or c.lone.result c.args.settled)
told c =
    let i = c.loop-turn.invariant in
    let n = c.narrow_all-narrowed.ensures in
    with-settled (rest-peeled n.peeled n.others i.rest) (settled-peeled c.args.rest.now n.peeled n.others i.settled)
    (lone-counts (n.peeled.as_many ∙ i.peeled.as_many ∙ c.requires.square) n.counts (omega arith) c.lone.ensures) (omega arith) (omega arith)

pub returns-then-is_same-clause-lone : goal.returns-then-is_same-clause-lone
returns-then-is_same-clause-lone c = (told (goal.at.returns-then-is_same-clause-lone c).After-lone).0

pub returns-then-is_same-clause-outside : goal.returns-then-is_same-clause-outside
returns-then-is_same-clause-outside c = (told (goal.at.returns-then-is_same-clause-outside c).After-lone).1

-- and after the last turn
told_last : (c : After-lone-2) → AreLone c.args.values c.loop-turn.sets (bit_or c.lone-2.result c.args.settled)
    × AreMetOutside c.loop-turn.sets c.args.rest.now (bit_or c.lone-2.result c.args.settled)
told_last c =
    let i = c.loop-turn.invariant in
    with-settled i.rest i.settled (lone-counts (i.peeled.as_many ∙ c.requires.square) i.counts (omega arith) c.lone-2.ensures) (omega arith) (omega arith)

pub returns-clause-lone : goal.returns-clause-lone
returns-clause-lone c = (told_last (goal.at.returns-clause-lone c).After-lone-2).0

pub returns-clause-outside : goal.returns-clause-outside
returns-clause-outside c = (told_last (goal.at.returns-clause-outside c).After-lone-2).1
