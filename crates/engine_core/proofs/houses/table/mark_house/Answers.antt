use Rattle.engine_core.proofs.Common.{arith, length, length-set, refl, take-length, ◌∙◌, ◌≡◌}
use Rattle.engine_core.proofs.MarkLemmas.{mark-first, mark-more}
use Rattle.engine_core.proofs.houses.table.mark_house.Goals as goal

pub loop-k-init : goal.loop-k-init
loop-k-init c = record { as_many = refl; marked = mark-first }

pub loop-k-preserved : goal.loop-k-preserved
loop-k-preserved c =
    let i = c.loop-k.invariant in
    record {
      as_many = length-set c.loop-k.marks _ _ ∙ i.as_many;
      marked = mark-more c.args.places.now c.loop-k-test.true c.requires.house_in refl
          (omega (arith, c.requires.within c.loop-k.k c.loop-k-test.true, c.requires.house_in, i.as_many)) i.marked;
    }

pub returns-clause-marked : goal.returns-clause-marked
returns-clause-marked c =
    let all : c.loop-k.k ≡ length c.args.places.now = omega arith in
    rw (all, take-length c.args.places.now) at c.loop-k.invariant.marked
