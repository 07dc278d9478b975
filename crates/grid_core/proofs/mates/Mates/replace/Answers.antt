use Rattle.std.proofs.lemmas.Grind.{common_steps}
use Rattle.grid_core.proofs.Common.{List, MatesView, ap, arith, get_or, get_or-take, get_or_default, length, length-take, set, take, take-set-lt, ℕ, ◌<◌, ◌≡◌}
use Rattle.grid_core.proofs.PairingLemmas.{mate_in, AreOwners-replace}
use Rattle.grid_core.proofs.mates.Mates.replace.Goals as goal

-- an entry of the first ones, and its place among them
entry_of : (xs : List ℕ) {ys : List ℕ} (count : ℕ) {i x : ℕ} → take count xs ≡ ys → i < length ys → x ≡ get_or xs i x
    → (i < count) × (i < length (take count xs)) × (x ≡ get_or (take count xs) i 0)
entry_of xs count {i} {x} e h is = grind (arith, length-take, get_or_default, get_or-take)

pub index_mut-requires : goal.index_mut-requires
index_mut-requires c =
    let i = c.self.inside in
    let e = entry_of i.mates.items i.count (ap (λ (v : MatesView). v.mates) c.self.view_is) c.requires.left_in c.index-old.ensures in
    let inside : get_or (take i.count i.mates.items) c.args.left 0 < length i.owners.items =
    mate_in i.owners.items (get_or (take i.count i.mates.items) c.args.left 0) (c.self.invariant.2.owned c.args.left e.1) in
    omega arith

pub invariant_of-self : goal.invariant_of-self
invariant_of-self c =
    let i = c.self.inside in
    let mates = ap (λ (v : MatesView). v.mates) c.self.view_is in
    let room = ap (λ (v : MatesView). v.room) c.self.view_is in
    let old = c.self.invariant in
    let e = entry_of i.mates.items i.count mates c.requires.left_in c.index-old.ensures in (
      old.0,
      old.1,
      rw (e.2, take-set-lt i.count i.mates.items c.args.left c.args.right e.0)
          (AreOwners-replace c.args.left c.args.right e.1 old.2 (omega arith) (rw mates c.requires.free)),
    )

pub returns-clause-has : goal.returns-clause-has
returns-clause-has c = grind (arith, common_steps, entry_of, take-set-lt, set, c.requires.left_in, c.index-old.ensures)
