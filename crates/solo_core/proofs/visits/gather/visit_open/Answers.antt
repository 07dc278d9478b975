use Rattle.solo_core.proofs.OpenLemmas.{row-settled}
use Rattle.grid_core.specs.Board.{has}
use Rattle.solo_core.proofs.Common.{arith, slice_index, ◌∙◌}
use Rattle.solo_core.proofs.PeelLemmas.{decided_by_peeled}
use Rattle.solo_core.proofs.visits.gather.visit_open.Goals as goal

pub strike_open-count-requires-clause-house : goal.strike_open-count-requires-clause-house
strike_open-count-requires-clause-house c = row-settled c.args.values (λ k v. has c.args.board.now (slice_index c.args.places.now k) v) c.gather.new.sets c.requires.house
    (λ k lk off. rw c.requires.values (c.gather.ensures.bits k (omega (arith, c.requires.square))))

pub returns-in-Some-true-clause-visited : goal.returns-in-Some-true-clause-visited
returns-in-Some-true-clause-visited c = record {
  sets = c.gather.new.sets;
  as_many = c.gather.auto.sets ∙ c.requires.as_many;
  bits = rw c.requires.values c.gather.ensures.bits;
  left = decided_by_peeled c.strike_open-count.ensures.peeled c.in-Some-true.ensures.decided;
}

pub returns-in-Some-true-clause-others : goal.returns-in-Some-true-clause-others
returns-in-Some-true-clause-others c = λ k lk out.
    rw (c.in-Some-true.ensures.others k out ∙ c.strike_open-count.ensures.others k out, c.requires.values) (c.gather.ensures.bits k lk)

pub returns-in-None-clause-dead : goal.returns-in-None-clause-dead
returns-in-None-clause-dead c = record {
  sets = c.gather.new.sets;
  as_many = c.gather.auto.sets ∙ c.requires.as_many;
  bits = rw c.requires.values c.gather.ensures.bits;
  left = decided_by_peeled c.strike_open-count.ensures.peeled c.in-None.ensures.none;
}
