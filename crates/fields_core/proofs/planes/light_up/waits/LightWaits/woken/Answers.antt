use Rattle.fields_core.proofs.Common.{refl, ◌+◌, ◌-◌, ◌∙◌}
use Rattle.fields_core.proofs.planes.light_up.waits.LightWaits.woken.Goals as goal

pub returns : goal.returns
returns g c = record {
  numbers = λ k. c.spread.ensures k ∙ rw (c.either.ensures (k - 1), c.either.ensures k, c.either.ensures (k + 1)) refl;
  number_columns = λ k. c.spread-2.ensures k ∙ rw (c.either-2.ensures (k - 1), c.either-2.ensures k, c.either-2.ensures (k + 1)) refl;
  rows_are = c.either-3.ensures;
  columns_are = c.either-4.ensures;
  one_rows = c.either-6.ensures;
  one_columns = c.either-5.ensures;
}
