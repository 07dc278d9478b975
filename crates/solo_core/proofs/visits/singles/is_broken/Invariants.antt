use Rattle.solo_core.proofs.Common.{any_below, has_bit, has_in, ℕ, ◌≡◌}
use Rattle.solo_core.specs.Singles.{has_empty_cell}
use Rattle.solo_core.proofs.visits.singles.is_broken.Given as goal

abbrev pub invariant-loop-j : goal.invariant-loop-j
invariant-loop-j l = (l.empty ≡ has_empty_cell l.j l.values (has_in l.sets))
    × ((v : ℕ) → has_bit l.some v ≡ any_below (λ k. has_in l.sets k v) l.j)
