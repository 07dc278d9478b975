use Rattle.fields_core.proofs.Common.{arith, length, length-set, ◌*◌, ◌+◌, ◌<◌, ◌∙◌}
use Rattle.fields_core.proofs.LightRunWords.{filled-more}
use Rattle.fields_core.proofs.planes.light_up.tables.fill.Goals as goal

pub loop-at-preserved : goal.loop-at-preserved
loop-at-preserved g c =
    let i = c.loop-at.invariant in
    let there : c.args.first + c.loop-at.at * c.args.stride < length c.loop-at.runs.items = omega (arith, c.requires.within c.loop-at.at c.loop-at-test.true, i.long) in
    record {
      filled = filled-more g.W.Word.bits c.loop-at.runs.items c.args.word (omega (arith, c.loop-at.auto)) there i.filled;
      long = length-set _ _ _ ∙ i.long;
    }
