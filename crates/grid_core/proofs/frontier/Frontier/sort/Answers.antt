use Rattle.grid_core.proofs.Common.{List, ap, arith, common_steps, drop, length, sym, take, vec_len, ℕ, ◌++◌, ◌≡◌}
use Rattle.grid_core.proofs.PairingLemmas.{AreLeftsReached-sort, ascending}
use Rattle.grid_core.proofs.frontier.Frontier.sort.Goals as goal

-- a list that is written over another as long
written : (n : ℕ) (xs ys given : List ℕ) → length xs ≡ length given → length ys ≡ n → given ≡ ys → take n (xs ++ drop (length xs) ys) ≡ xs
written n xs ys given e f g = let h = ap (length {A = ℕ}) g in grind (arith, common_steps)

pub invariant_of-self : goal.invariant_of-self
invariant_of-self c =
    let i = c.self.inside in
    let old = c.self.invariant in
    let s = c.sort_first.ensures in
    let value = c.deref_mut.ensures.value in (
      old.0,
      old.1,
      old.2,
      rw (written (vec_len i.queue) c.sort_first.new.entries i.queue.items c.deref_mut.result.now s.as_long (omega arith) value)
          (AreLeftsReached-sort (take i.count c.sort_first.new.entries) old.3
          (rw (sym value) s.same) s.sorted),
    )

pub returns-clause-same : goal.returns-clause-same
returns-clause-same c = grind (arith, written, vec_len, c.sort_first.ensures, c.deref_mut.ensures.value)

pub returns-clause-ascending : goal.returns-clause-ascending
returns-clause-ascending c =
    let i = c.self.inside in
    let s = c.sort_first.ensures in
    let value = c.deref_mut.ensures.value in
    rw (written (vec_len i.queue) c.sort_first.new.entries i.queue.items c.deref_mut.result.now s.as_long (omega arith) value)
    (ascending (take i.count c.sort_first.new.entries) c.self.invariant.3
    (rw (sym value) s.same) s.sorted)
