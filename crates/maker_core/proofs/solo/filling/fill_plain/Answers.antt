use Rattle.maker_core.proofs.Common.{arith}
use Rattle.maker_core.proofs.solo.filling.fill_plain.Goals as goal

pub rearrange-requires : goal.rearrange-requires
rearrange-requires g c = record {
  c_some = omega (arith, c.requires);
  r_some = omega (arith, c.requires);
  few = rw (c.from-tall.ensures, c.from-wide.ensures) c.requires.n_high;
  number_order = rw c.deref.ensures.value c.in_ok-numbers.ensures.ordered;
  row_order = rw c.deref-2.ensures.value c.in_ok-rows.ensures.grouped;
  column_order = rw c.deref-3.ensures.value c.in_ok-columns.ensures.grouped;
}
