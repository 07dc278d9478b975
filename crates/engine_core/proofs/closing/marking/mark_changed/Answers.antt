use Rattle.engine_core.proofs.Common.{IsBitsOf, arith, has, length, ◌≡◌}
use Rattle.engine_core.proofs.QueueLemmas.{scope-in, woken-else, woken-first, woken-then}
use Rattle.engine_core.proofs.closing.marking.mark_changed.Goals as goal
use Rattle.engine_core.proofs.closing.marking.mark_changed.Goals.{then-bits-sets, else-bits-sets}

pub loop-k-init : goal.loop-k-init
loop-k-init g c = λ K are inside. woken-first c.args.house K (has c.args.board.now)

pub bits-requires : goal.bits-requires
bits-requires g c =
    rw (c.requires.board_of.same_cells, c.scope-place.ensures)
    (scope-in (g.met.R.Rules.lawful c.args.rules.now) c.loop-k.k c.requires.house_in (omega (arith, c.requires.long)))

pub mark_at-requires-clause-place_in : goal.mark_at-requires-clause-place_in
mark_at-requires-clause-place_in g c =
    rw c.scope-place.ensures (scope-in (g.met.R.Rules.lawful c.args.rules.now) c.loop-k.k c.requires.house_in (omega (arith, c.requires.long)))

pub loop-k-preserved : goal.loop-k-preserved
loop-k-preserved g c = λ K are inside.
    let p = g.R.Rules.system c.args.rules.now in
    let i = c.loop-k.invariant K are inside in
    let was = are.bits c.loop-k.k (omega (arith, c.requires.long)) in
    let is : IsBitsOf (has c.args.board.now c.scope-place.result) p.values c.bits.result =
    rw (← c.requires.board_of.same_values) (record { small = c.bits.ensures.small; same = c.bits.ensures.same }) in
    elim c.if-bits-sets.branch [
      | then-bits-sets w ↦ rw w.waits-is (woken-then p c.args.house K _ c.loop-k.k c.scope-place.ensures was is inside w.if-bits-sets.true i w.mark_at.ensures)
      | else-bits-sets w ↦ rw w.waits-is (woken-else p c.args.house K _ c.loop-k.k c.scope-place.ensures was is w.if-bits-sets.false i)
    ]

pub returns : goal.returns
returns g c =
    let all : c.loop-k.k ≡ length ((g.R.Rules.system c.args.rules.now).scope c.args.house) = omega (arith, c.requires.long) in
    λ K are inside. rw all at (c.loop-k.invariant K are inside)
