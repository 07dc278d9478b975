use Rattle.solo_core.proofs.PartLemmas.{parts-more}
use Rattle.solo_core.proofs.visits.parts.write_parts.Goals as goal

pub loop-root-preserved : goal.loop-root-preserved
loop-root-preserved c =
    parts-more c.loop-root.invariant c.in-Some.root c.part_of-part.result c.without-left.result c.in-Some.ensures c.part_of-part.ensures
    c.write_part.ensures.as_many c.write_part.ensures.written c.without-left.ensures
