use Rattle.fields_core.proofs.Common.{eqb, house_told, rules, slice_index, ◌∙◌}
use Rattle.fields_core.proofs.HouseLemmas.{has-next}
use Rattle.fields_core.proofs.count.house.House.has.Goals as goal

pub returns : goal.returns
returns c =
    let places = (house_told c.args.self.now).places in
    let next = c.next_passing.ensures (λ k. eqb (slice_index places k) c.args.place) (λ d answer lt met. search rules) in
    c.is_some.ensures ∙ has-next places c.args.place _ (rw c.len.ensures at next)
