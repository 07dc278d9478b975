use Rattle.grid_core.proofs.Common.{ap, refl, sym}
use Rattle.std.specs.Vec.{with_item}
use Rattle.grid_core.proofs.fixed.FixedIndexMutUsize.index_mut.Goals as goal

pub returns : goal.returns
returns g c = (
  (refl, λ w. ap (λ f. with_item f c.args.index w) c.self.view_is),
  record {
    writes_back = _;
    value = rw (sym c.self.view_is) c.index_mut.ensures.value;
  },
)
