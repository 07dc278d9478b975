use Rattle.maker_core.proofs.Common.{arith, get_or_read, mul-le, ◌+◌}
use Rattle.maker_core.proofs.Shuffles.{groups-more, grouped-more}
use Rattle.maker_core.proofs.solo.filling.line_order.Goals as goal

pub push_group-requires : goal.push_group-requires
push_group-requires g c =
    let order = c.in_ok-groups.ensures.ordered in
    let len = order.len in
    let below = order.within c.loop-k.k (omega arith) in
    let is = get_or_read c.in_ok-groups.groups.items c.loop-k.k c.index.result.now (omega arith) c.index.ensures 0 in
    let few = c.requires.few in
    let room = mul-le (c.index.result.now + 1) c.args.size c.args.count c.args.size (omega arith) (omega arith) in
    record { few = omega arith }

pub loop-k-preserved : goal.loop-k-preserved
loop-k-preserved g c =
    let len = c.in_ok-groups.ensures.ordered.len in
    let is = get_or_read c.in_ok-groups.groups.items c.loop-k.k c.index.result.now (omega arith) c.index.ensures 0 in
    record {
      drawn = groups-more c.args.size c.loop-k.k _ _ c.loop-k.invariant.drawn is c.in_ok-push_group.ensures.drawn;
      grouped = grouped-more _ c.requires.some c.loop-k.invariant.grouped is c.in_ok-push_group.ensures.ordered c.in_ok-push_group.ensures.drawn;
    }
