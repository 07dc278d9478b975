use Rattle.fields_core.proofs.Common.{arith, common_steps, not, tent, ◌&&◌, ◌==◌}
use Rattle.fields_core.proofs.LightSeen.{tent-among}
use Rattle.fields_core.proofs.tents.touch.has_tent_among.Goals as goal

pub returns : goal.returns
returns c =
    let g = c.args.grid.now in
    rw c.is_some.ensures (tent-among g c.args.place c.args.from c.args.end c.next_passing.result
    (c.next_passing.ensures (λ d. not (d == c.args.place) && tent g d) (λ d answer lt met. grind (arith, common_steps))))
