use Rattle.engine_core.proofs.Common.{arith, length-set, ◌∙◌}
use Rattle.engine_core.proofs.MarkLemmas.{joined-more}
use Rattle.engine_core.proofs.houses.table.join_marks.Goals as goal

pub loop-word-preserved : goal.loop-word-preserved
loop-word-preserved c =
    let i = c.loop-word.invariant in
    record {
      as_many = length-set c.loop-word.waits _ _ ∙ i.as_many;
      joined = λ j. joined-more c.loop-word.waits c.args.marks.now _ c.loop-word.word j (omega (arith, i.as_many)) (i.joined j);
    }
