use Rattle.solo_core.proofs.Common.{any_below, eqb, has_bit, has_in, not, ℕ, ◌&&◌, ◌<◌, ◌≡◌}
use Rattle.solo_core.specs.Singles.{has_only}
use Rattle.solo_core.proofs.visits.singles.keep_cell.Given as goal

abbrev pub invariant-loop-j : goal.invariant-loop-j
invariant-loop-j l = record {
  taken : (v : ℕ) → v < l.values → has_bit l.taken v ≡ any_below (λ k. not (eqb k l.place) && has_only l.values (has_in l.sets) k v) l.j;
  elsewhere : (v : ℕ) → has_bit l.elsewhere v ≡ any_below (λ k. not (eqb k l.place) && has_in l.sets k v) l.j;
}
