use Rattle.fields_core.proofs.Common.{refl, sym, ◌∙◌}
use Rattle.fields_core.proofs.LightSweeps.{last-settled}
use Rattle.fields_core.proofs.planes.light_up.waits.LightWaits.settle_numbers.Goals as goal

pub returns-then-not-is_some : goal.returns-then-not-is_some
returns-then-not-is_some g c = λ p K low rested idle.
    last-settled g.W.Word.bits p c.args.self.now _ g.W.Word.room c.args.y K (λ k. c.but-self.ensures k ∙ rw (c.one.ensures k, c.from.ensures) refl) refl refl refl
    rested idle low (sym c.is_some.ensures ∙ c.if-not-is_some.true)
