use Rattle.std.proofs.Common.{◌≡◌, ℕ, ◌<◌, length, slice_index}
use Rattle.solo_core.proofs.visits.parts.write_leads.Given as goal

abbrev pub invariant-loop-i : goal.invariant-loop-i
invariant-loop-i l = record {
  as_many : length l.leads ≡ length l.fn.leads;
  leads : (j : ℕ) → j < l.i → slice_index l.leads (slice_index l.mates j) ≡ slice_index l.sets (slice_index l.rest j);
  others : (k : ℕ) → ((j : ℕ) → j < l.i → slice_index l.mates j ≡ k → ⊥) → slice_index l.leads k ≡ slice_index l.fn.leads k;
}
