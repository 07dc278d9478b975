use Rattle.fields_core.proofs.Common.{refl}
use Rattle.fields_core.proofs.planes.tents.waits.TentWaits.woken.Goals as goal

pub returns : goal.returns
returns g c = record {
  columns = λ k. rw (c.either-2.ensures k, c.either.ensures k) refl;
  rows = λ k. rw (c.either-4.ensures k, c.either-3.ensures k) refl;
  trees = λ k. rw (c.either-7.ensures k, c.either-6.ensures k, c.either-5.ensures k, c.on.ensures k, c.back.ensures k) refl;
  squares = λ k. rw (c.either-9.ensures k, c.either-8.ensures k, c.back-2.ensures k) refl;
}
