use Rattle.engine_core.proofs.Common.{is_waiting, length, ltb, ℕ, ◌&&◌, ◌/◌, ◌||◌, ◌≡◌}
use Rattle.engine_core.proofs.houses.table.join_marks.Given as goal

abbrev pub invariant-loop-word : goal.invariant-loop-word
invariant-loop-word l = record {
  as_many : length l.waits ≡ length l.fn.waits;
  joined : (j : ℕ) → is_waiting l.waits j ≡ (is_waiting l.fn.waits j || (ltb (j / 64) l.word && is_waiting l.marks j));
}
