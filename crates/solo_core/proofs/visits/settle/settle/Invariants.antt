use Rattle.solo_core.proofs.Common.{AreSettledBut, bit_and, length, slice_index, take, ℕ, ◌<◌, ◌≡◌, ◌≤◌}
use Rattle.solo_core.proofs.SettledLemmas.{IsSettling}
use Rattle.solo_core.proofs.visits.settle.settle.Given as goal

abbrev pub invariant-loop-cell : goal.invariant-loop-cell
invariant-loop-cell l = record {
  as_many : length l.copy ≡ length l.sets;
  copied : (j : ℕ) → j < l.cell → slice_index l.copy j ≡ slice_index l.sets j;
  room : length l.rest ≡ length l.fn.rest;
  within : l.count ≤ l.cell;
  settling : IsSettling l.values l.sets (take l.count l.rest) l.cell (bit_and l.taken l.all);
}

abbrev pub invariant-loop-cell-2 : goal.invariant-loop-cell-2
invariant-loop-cell-2 l = record {
  room : length l.rest ≡ length l.fn.rest;
  settled : AreSettledBut l.values l.sets (take l.cell l.rest) l.cell 0;
}
