use Rattle.solo_core.proofs.Common.{arith, get_or-replicate, sym, ℕ, ◌∙◌}
use Rattle.std.proofs.lemmas.List.{length-replicate}
use Rattle.solo_core.proofs.MateLemmas.{no_pairing}
use Rattle.solo_core.proofs.PeelLemmas.{decided_whole}
use Rattle.solo_core.proofs.TurnLemmas.{decided_by_none}
use Rattle.solo_core.proofs.visits.houses.keep_unless_whole.Goals as goal

pub returns-then-are_whole-clause-decided : goal.returns-then-are_whole-clause-decided
returns-then-are_whole-clause-decided c = decided_whole c.requires.square c.requires.lone (c.are_whole.ensures c.if-are_whole.true)

pub returns-then-not-pair_rest-clause-none : goal.returns-then-not-pair_rest-clause-none
returns-then-not-pair_rest-clause-none c =
    let long = length-replicate {A = ℕ} c.args.values 0 in
    decided_by_none (λ mates p. no_pairing c.args.values c.args.kept.now c.args.rest.now c.requires.rest _ mates (c.pair_rest.ensures.short c.if-not-pair_rest.true) p)
    (long ∙ sym c.requires.square) (λ k lt. get_or-replicate {A = ℕ} c.args.values k 0 0 (omega (arith, long)))
