use Rattle.engine_core.proofs.Common.{false, is_waiting, ℕ, ◌*◌, ◌+◌, ◌<◌, ◌≡◌, ◌≤◌}
use Rattle.engine_core.proofs.waits.next_waiting.Given as goal

abbrev pub invariant-loop-word : goal.invariant-loop-word
invariant-loop-word l = record {
  bit_in : l.bit < 64;
  past : l.from ≤ l.word * 64 + l.bit;
  none : (j : ℕ) → l.from ≤ j → j < l.word * 64 + l.bit → is_waiting l.waits j ≡ false;
}
