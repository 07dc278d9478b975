use Rattle.pattern_core.proofs.Common.{any_below-none, arith, has_bit, sym, ◌∙◌}
use Rattle.pattern_core.proofs.TableSteps.{decided_by_track}
use Rattle.pattern_core.proofs.planes.filter.Cells.filter_by.Goals as goal

pub keep_settled-requires-clause-settled : goal.keep_settled-requires-clause-settled
keep_settled-requires-clause-settled g c = λ k lt.
    sym (c.both.ensures k) ∙ any_below-none (has_bit (g.W.Word.bits c.both.result)) g.W.Word.room (sym c.is_some.ensures ∙ c.if-not-is_some.true) k (omega (arith, lt, c.requires.fits))

pub returns-then-not-is_some : goal.returns-then-not-is_some
returns-then-not-is_some g c = decided_by_track c.args.clue.now c.steps-steps.ensures.track c.steps-steps.ensures.positive c.keep_settled.ensures

pub returns : goal.returns
returns g c = decided_by_track c.args.clue.now c.steps-steps.ensures.track c.steps-steps.ensures.positive c.keep.ensures
