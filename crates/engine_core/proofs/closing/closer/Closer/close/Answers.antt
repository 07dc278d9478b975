use Rattle.engine_core.proofs.Common.{IsBoardOf, IsRested, arith, common_steps, drop, has, is_waiting, length, length-replicate, replicate, sym, take, true≢false, vec_len, ◌++◌, ◌∙◌, ◌≡◌}
use Rattle.engine_core.proofs.AroundLemmas.{closed-none}
use Rattle.engine_core.proofs.QueueLemmas.{dead_of, within_of}
use Rattle.engine_core.proofs.MarkLemmas.{waiting-all}
use Rattle.engine_core.proofs.closing.closer.Closer.close.Goals as goal
use Rattle.engine_core.proofs.closing.closer.Closer.close.Goals.{After-fill}

-- each house waits at first
rested : (g : _) (c : After-fill g) → IsRested (g.R.Rules.system c.args.rules.now) (has c.self.inside.board) (is_waiting
    (take (vec_len c.self.inside.waits) (c.fill.new.self ++ drop (length c.fill.new.self) c.self.inside.waits.items)))
rested g c = λ h d v lt asleep on.
    let fits = rw (← c.self.view_is) at c.requires.fits in
    let long = c.fill.ensures.len ∙ c.deref_mut.ensures.len in
    let made : take (vec_len c.self.inside.waits) (c.fill.new.self ++ drop (length c.fill.new.self) c.self.inside.waits.items)
    ≡ replicate (length c.self.inside.waits.items) 18446744073709551615 =
    let all = c.fill.ensures.after (λ y same. same) in
    let value = c.deref_mut.ensures.value in
    grind (arith, common_steps, length-replicate) in
    absurd (true≢false (sym (rw made
    (waiting-all (length c.self.inside.waits.items) h
    (omega (arith, c.self.invariant.0.waits_long, fits.houses_in)))) ∙ asleep))

pub returns-then-has_empty_cell-clause-closing : goal.returns-then-has_empty_cell-clause-closing
returns-then-has_empty_cell-clause-closing g c =
    let p = g.R.Rules.system c.args.rules.now in
    let fits = rw (← c.self.view_is) at c.requires.fits in
    let of : IsBoardOf p c.self.inside.board =
    record {
      same_cells = c.self.invariant.0.board_cells ∙ sym fits.same_cells;
      same_values = c.self.invariant.0.board_values ∙ sym fits.same_values;
    } in
    rw (← c.self.view_is) (closed-none (g.met.R.Rules.lawful c.args.rules.now) _ _ (within_of p _ of)
    (sym (dead_of p of) ∙ (sym c.has_empty_cell.ensures ∙ c.if-has_empty_cell.true)))

pub run-requires-clause-rested : goal.run-requires-clause-rested
run-requires-clause-rested g c = rested g (goal.at.run-requires-clause-rested g c).After-fill
