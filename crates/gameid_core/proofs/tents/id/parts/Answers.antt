use Rattle.gameid_core.specs.Common.{arith, common_steps, length}
use Rattle.gameid_core.proofs.Reading.{place}
use Rattle.gameid_core.proofs.TentsTexts.{tree_taken}
use Rattle.gameid_core.proofs.tents.id.parts.Goals as goal

pub loop-first-preserved : goal.loop-first-preserved
loop-first-preserved c = record {
  short = grind (arith, common_steps);
  so_far = let at = place c.args.base (length c.args.description.now) c.loop-first.rest.now in
      grind (arith, common_steps, tree_taken c.args.size at _ c.loop-first.places.items c.in-Some.after.now _ c.if-first-eq44.false c.in_ok-take_places.ensures);
}
