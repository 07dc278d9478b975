use Rattle.engine_core.proofs.Common.{IsBitsOf, arith, has, one_shl, sym, ◌%◌, ◌*◌, ◌^◌, ◌∙◌, ◌≡◌}
use Rattle.engine_core.proofs.QueueLemmas.{bits-several, left-only, only-bits}
use Rattle.engine_core.proofs.SetLemmas.{bits-are}
use Rattle.engine_core.proofs.trail.trailed.TrailedBoard.leave_one.Goals as goal
use Rattle.engine_core.proofs.trail.trailed.TrailedBoard.leave_one.Goals.{After-bits-before}

-- the bit of the value alone
bit : (g : _) (c : After-bits-before g) → 1 * 2 ^ c.args.value % 4294967296 ≡ 2 ^ c.args.value
bit g c = one_shl c.args.value 32 (omega (arith, c.requires.value_in, (g.met.R.Rules.lawful c.args.rules.now).few_values))

pub leave-requires-clause-left : goal.leave-requires-clause-left
leave-requires-clause-left g c =
    rw (bit g (goal.at.leave-requires-clause-left g c).After-bits-before) (only-bits _ c.args.place c.requires.there c.requires.value_in)

pub leave-requires-clause-other : goal.leave-requires-clause-other
leave-requires-clause-other g c = λ e.
    let r = rw (← c.self.view_is) at c.requires in
    let b = c.self.inside.board in
    let bits : IsBitsOf (has b c.args.place) (g.R.Rules.system c.args.rules.now).values c.bits-before.result =
    rw (← r.board_of.same_values) (bits-are b c.args.place c.bits-before.ensures.small c.bits-before.ensures.same) in
    bits-several c.args.value bits r.several (sym (bit g (goal.at.leave-requires-clause-other g c).After-bits-before) ∙ e)

pub returns-clause-left : goal.returns-clause-left
returns-clause-left g c =
    c.leave.ensures.left ∙ rw (bit g (goal.at.returns-clause-left g c).After-bits-before) (left-only _ c.args.place c.args.value)
