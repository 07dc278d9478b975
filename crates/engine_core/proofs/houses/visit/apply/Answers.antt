use Rattle.engine_core.proofs.Common.{has, ◌∙◌}
use Rattle.engine_core.proofs.HouseLemmas.{striking-more, kept-more, kept-inside}
use Rattle.engine_core.proofs.houses.visit.apply.Goals as goal

pub loop-k-preserved : goal.loop-k-preserved
loop-k-preserved c =
    let i = c.loop-k.invariant in
    let e = c.retain-struck.ensures in
    let K = has c.args.board.now in
    let K' = has c.loop-k.board in
    let K'' = has c.retain-struck.new.self in
    record {
      left = kept-more c.args.places.now c.args.kept.now c.loop-k.k K K' K'' i.left e.left;
      striking = striking-more i.striking (kept-inside K' K'' _ _ e.left) e.same (λ on. let w = e.lost on in (_, w.0, w.1, w.2));
      shape = record { same_values = e.shape.same_values ∙ i.shape.same_values; same_cells = e.shape.same_cells ∙ i.shape.same_cells };
    }
