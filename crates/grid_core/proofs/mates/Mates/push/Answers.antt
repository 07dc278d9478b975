use Rattle.grid_core.proofs.Common.{MatesView, ap, arith, length, length-take, take, take_more_set, ℕ, ◌<◌, ◌≡◌}
use Rattle.grid_core.proofs.PairingLemmas.{AreOwners-push}
use Rattle.grid_core.proofs.mates.Mates.push.Goals as goal

pub invariant_of-self : goal.invariant_of-self
invariant_of-self c =
    let i = c.self.inside in
    let old = c.self.invariant in
    let mates = ap (λ (v : MatesView). v.mates) c.self.view_is in
    let room = ap (λ (v : MatesView). v.room) c.self.view_is in
    let long = ap (length {A = ℕ}) mates in
    let len : length (take i.count i.mates.items) ≡ i.count = omega (arith, length-take i.count i.mates.items) in
    let inside : i.count < length i.mates.items = omega arith in (
      omega arith,
      old.1,
      rw (take_more_set i.mates.items i.count c.args.right inside)
          (AreOwners-push c.args.right len old.2 (omega arith) (rw mates c.requires.free)),
    )
