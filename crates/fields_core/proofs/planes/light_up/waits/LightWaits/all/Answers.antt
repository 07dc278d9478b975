use Rattle.fields_core.proofs.Common.{has_bit, lt-ltb, true, ℕ, ◌<◌, ◌∙◌, ◌≡◌}
use Rattle.fields_core.proofs.LightSweeps.{lines-all}
use Rattle.fields_core.proofs.planes.light_up.waits.LightWaits.all.Goals as goal

pub returns : goal.returns
returns g c = λ p K lawful narrow low. lines-all g.W.Word.bits p _ K lawful narrow low
    (λ k lt. rw c.at.ensures.numbers (at k lt)) (λ k lt. rw c.at.ensures.number_columns (at k lt)) (λ k lt. rw c.at.ensures.rows (at k lt))
    (λ k lt. rw c.at.ensures.columns (at k lt)) (λ y x y_in x_in. rw (c.at.ensures.one_columns, c.at.ensures.one_rows) (at x x_in, at y y_in))
  where
    at : (k : ℕ) → k < g.W.Word.room → has_bit (g.W.Word.bits c.all.result) k ≡ true
    at k lt = c.all.ensures k ∙ lt-ltb k _ (rw (c.places.ensures.value) lt)
