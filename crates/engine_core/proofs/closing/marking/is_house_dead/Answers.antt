use Rattle.engine_core.proofs.Common.{IsBitsOf, arith, has}
use Rattle.engine_core.proofs.QueueLemmas.{dead-first, dead-more, scope-in}
use Rattle.engine_core.proofs.closing.marking.is_house_dead.Goals as goal

pub loop-k-init : goal.loop-k-init
loop-k-init g c = dead-first (g.R.Rules.system c.args.rules.now) c.args.house (has c.args.board.now)

pub bits-requires : goal.bits-requires
bits-requires g c =
    rw (c.requires.board_of.same_cells, c.scope.ensures)
    (scope-in (g.met.R.Rules.lawful c.args.rules.now) c.loop-k.k c.requires.house_in (omega (arith, c.scope_len-k-end.ensures)))

pub loop-k-preserved : goal.loop-k-preserved
loop-k-preserved g c =
    let p = g.R.Rules.system c.args.rules.now in
    let is : IsBitsOf (has c.args.board.now c.scope.result) p.values c.bits.result =
    rw (← c.requires.board_of.same_values) (record { small = c.bits.ensures.small; same = c.bits.ensures.same }) in
    dead-more p c.args.house (has c.args.board.now) c.loop-k.k c.scope.ensures is c.loop-k.invariant
