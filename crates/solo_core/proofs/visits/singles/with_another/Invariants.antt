use Rattle.solo_core.proofs.Common.{any_below, eqb, has_bit, not, ℕ, ◌&&◌, ◌<◌, ◌≡◌}
use Rattle.solo_core.proofs.visits.singles.with_another.Given as goal

abbrev pub invariant-loop-value : goal.invariant-loop-value
invariant-loop-value l = (v : ℕ) → v < l.values → has_bit l.others v ≡ any_below (λ w. not (eqb w v) && has_bit l.set w) l.value
